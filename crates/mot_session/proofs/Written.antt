-- Replies that were written, whole or in part.
use Rattle.std.proofs.Common.{◌≡◌, ℕ, ◌+◌, ◌<◌, ◌≤◌, true, false, Bool, List, [], ◌∷◌, ◌++◌, map}
use Rattle.std.proofs.Common.{Option, Some, Result, Ok, Err, refl, sym, ap, ◌∙◌, subst, arith}
use Rattle.std.proofs.Common.{append_assoc, append-nil, ◌⊎◌, inl, inr, ⊎_elim, length}
use Rattle.std.proofs.Common.{length-append}
use Rattle.std.specs.Prelude.{replicate, IsFalse, IsTrue}
use Rattle.std.specs.Io.KnownBytes.{Appends, Keeps}
use Rattle.std.proofs.KnownBytes.{Appends-trans, Appends-kept}
use Rattle.std.proofs.lemmas.Bool.Decides.{leb_tells}
use Rattle.std.proofs.lemmas.List.{length-map, replicate_more}
use Rattle.std.proofs.lemmas.List.Concat.{flat_map-append}
use Rattle.disk_model.specs.Disk.{Rises}
use Rattle.mot_groups.specs.Entity.{all_but_last}
use Rattle.mot_lines.specs.declared.line.Line.{Line}
use Rattle.mot_lines.specs.declared.line.Line.TheVariants as asks
use Rattle.mot_lines.specs.Text.{refusal_line}
use Rattle.mot_numbers.proofs.Laws.{read_each-append}
use Rattle.mot_numbers.specs.declared.refusal.Refusal.{Refusal}
use Rattle.mot_numbers.specs.declared.refusal.Refusal.TheVariants.{DeviceFault}
use Rattle.mot_packets.specs.Packet.{read_packet}
use Rattle.mot_packets.specs.Written.{bytes_of_packet}
use Rattle.mot_player.specs.Place.{Place, Sent, Step, Request, sent_by}
use Rattle.mot_player.specs.Laws.{HasSent, packets_sent}
use Rattle.mot_player.proofs.Laws.{requests-go_on}
use Rattle.mot_playout.proofs.Laws.{rises_on}
use Rattle.mot_session.specs.declared.serving.output.WriteFault.{WriteFault}
use Rattle.mot_session.specs.Inner.Writes.{Answered, AnswersWith, AnswersRequest, FailsToSend}
use Rattle.mot_session.specs.Inner.Writes.{SendsOne, may_have_done}
use Rattle.mot_session.specs.Served.{Writes, Begins, whole, begun, WritesFront}
use Rattle.mot_session.specs.Session.{PlaysForRequest, sent_line, sent_lines, ServerState}
use Rattle.mot_session.specs.Session.{KeepsCarousel, Stays, Reply, Answers, IsAnswer, decided}
use Rattle.mot_session.specs.Session.{accepted, listing, packets, played, refused, text_of}
use Rattle.mot_session.specs.Replies.{AreAsked}
use Rattle.mot_session.proofs.Shown.{sent-length}

pub sent_lines-more : (sents : List Sent) (s : Sent)
    → sent_lines (sents ++ s ∷ []) ≡ sent_lines sents ++ sent_line s
sent_lines-more sents s = flat_map-append sent_line sents (s ∷ [])
    ∙ ap (λ l. sent_lines sents ++ l) (append-nil (sent_line s))

-- ---- what was written before the last packet was asked for

-- the packets that a reply played
abbrev pub sents_of : Reply → List Sent
sents_of (refused r) = []
sents_of (accepted d) = []
sents_of (listing c) = []
sents_of (packets ps) = []
sents_of (played sents failed) = sents

abbrev is_cut_short : Reply → Bool
is_cut_short (refused r) = false
is_cut_short (accepted d) = false
is_cut_short (listing c) = false
is_cut_short (packets ps) = false
is_cut_short (played sents failed) = failed

all_but_last-more : (sents : List Sent) (s : Sent) → all_but_last (sents ++ s ∷ []) ≡ sents
all_but_last-more [] s = refl
all_but_last-more (t ∷ []) s = refl
all_but_last-more (t ∷ u ∷ sents) s = ap (λ l. t ∷ l) (all_but_last-more (u ∷ sents) s)

-- no packet was played
in_order-none : (reply : Reply) (first : List Sent) (last : Sent) (count : ℕ) → sents_of reply ≡ []
    → reply ≡ played (first ++ last ∷ []) false → length (sent_lines first) ≤ count
in_order-none reply first last count none e =
    let counted : length (sents_of reply) ≡ length (first ++ last ∷ []) =
    ap (λ r. length (sents_of r)) e in
    let nothing : length (sents_of reply) ≡ 0 = ap length none in
    let grown : length (first ++ last ∷ []) ≡ length first + 1 = length-append first (last ∷ []) in
    omega (arith, counted, nothing, grown)

cut_in_order-none : (reply : Reply) (sents : List Sent) (count : ℕ) → sents_of reply ≡ []
    → reply ≡ played sents true → length (sent_lines sents) ≤ count
cut_in_order-none reply sents count none e =
    let nothing : sents ≡ [] = sym (ap sents_of e) ∙ none in
    let lines : length (sent_lines sents) ≡ 0 = ap (λ l. length (sent_lines l)) nothing in
    omega (arith, lines)

-- all of the reply was written
in_order-whole : (reply : Reply) (first : List Sent) (last : Sent)
    → reply ≡ played (first ++ last ∷ []) false
    → length (sent_lines first) ≤ length (text_of reply)
unfolding text_of
in_order-whole reply first last e =
    let text : length (text_of reply) ≡ length (sent_lines (first ++ last ∷ [])) =
    ap (λ r. length (text_of r)) e in
    let grown : length (sent_lines (first ++ last ∷ []))
    ≡ length (sent_lines first ++ sent_line last) =
    ap length (sent_lines-more first last) in
    omega (arith, text, grown, length-append (sent_lines first) (sent_line last))

cut_in_order-whole : (reply : Reply) (sents : List Sent) → reply ≡ played sents true
    → length (sent_lines sents) ≤ length (text_of reply)
unfolding text_of
cut_in_order-whole reply sents e =
    let text : length (text_of reply) ≡ length (sent_lines sents ++ refusal_line DeviceFault) =
    ap (λ r. length (text_of r)) e in
    omega (arith, text, length-append (sent_lines sents) (refusal_line DeviceFault))

-- the line of the last packet was begun
in_order-begun : (sents : List Sent) (s : Sent) (front : List ℕ) (first : List Sent) (last : Sent)
    → played (sents ++ s ∷ []) false ≡ played (first ++ last ∷ []) false
    → length (sent_lines first) ≤ length (sent_lines sents ++ front)
in_order-begun sents s front first last e =
    let same : sents ≡ first = sym (all_but_last-more sents s)
    ∙ ap (λ r. all_but_last (sents_of r)) e ∙ all_but_last-more first last in
    let long : length (sent_lines sents) ≡ length (sent_lines first) =
    ap (λ l. length (sent_lines l)) same in
    omega (arith, long, length-append (sent_lines sents) front)

abbrev Yes : Bool → Type 0
Yes true = Unit {0}
Yes false = ⊥

not_cut : (sents others : List Sent) → played sents false ≡ played others true → ⊥
not_cut sents others e = subst (λ r. Yes (is_cut_short r)) (sym e) tt

not_played : (sents others : List Sent) → played sents true ≡ played others false → ⊥
not_played sents others e = subst (λ r. Yes (is_cut_short r)) e tt

-- ---- replies that were decided at once

-- a reply without packets, written whole or in part, answers its request so
pub AnswersRequest-written : {T : Type 0} (result : Result T WriteFault)
    (before after : ServerState)
    (request : Result Line Refusal) (reply : Reply) (old new : Option (List ℕ))
    → sents_of reply ≡ [] → Answers before request reply after
    → Writes result (text_of reply) old new
    → AnswersRequest result (may_have_done reply) before request after old new
AnswersRequest-written (Ok done) before after request reply old new none a w =
    (reply, refl, record { answers = a; written = w })
AnswersRequest-written (Err fault) before after request reply old new none a w = (
  reply,
  refl,
  record {
    begins = whole a;
    written = w;
    in_order = λ first last e. in_order-none reply first last (length w.written) none e;
    cut_in_order = λ sents e. cut_in_order-none reply sents (length w.written) none e;
  },
)

-- a flush keeps what was written, and may fail after all of it
pub AnswersWith-kept : {T : Type 0} (result : Result T WriteFault) (before after : ServerState)
    (request : Result Line Refusal) (reply : Reply) (old mid new : Option (List ℕ))
    → Answered before request reply after old mid → Keeps mid new
    → AnswersWith result before request reply after old new
AnswersWith-kept (Ok done) before after request reply old mid new a k = record {
  answers = a.answers;
  written = Appends-kept old mid new (text_of reply) a.written k;
}
AnswersWith-kept (Err fault) before after request reply old mid new a k = record {
  begins = whole a.answers;
  written = record {
    written = text_of reply;
    unwritten = [];
    split = sym (append-nil (text_of reply));
    appended = Appends-kept old mid new (text_of reply) a.written k;
  };
  in_order = λ first last e. in_order-whole reply first last e;
  cut_in_order = λ sents e. cut_in_order-whole reply sents e;
}

-- ---- packets, one after the other

pub stays-none : (state : ServerState) → Stays state state
stays-none state = record {
  standing = refl;
  place = refl;
  halted = refl;
  layout = refl;
  failures = omega arith;
}

keeps-more : (before mid after : ServerState) → KeepsCarousel before mid → KeepsCarousel mid after
    → KeepsCarousel before after
keeps-more before mid after a b = record {
  standing = b.standing ∙ a.standing;
  place = refl;
  halted = b.halted ∙ a.halted;
  layout = b.layout ∙ a.layout;
  failures = omega (arith, a.failures, b.failures);
}

-- so many requests sent these packets, and nothing else changed
pub record Sends (before : ServerState) (count : ℕ) (sents : List Sent) (after : ServerState) :
    Type 0 where
  pub sent : HasSent before.place count sents after.place
  pub keeps : KeepsCarousel before after

-- so many requests sent packets of which none ends a turn
pub record SendsWithinTurn (before : ServerState) (count : ℕ) (sents : List Sent)
    (after : ServerState) : Type 0 where
  pub sends : Sends before count sents after
  pub ends : map (λ (s : Sent). s.ends_turn) sents ≡ replicate count false

-- the requests up to the first that ends a turn, behind so many others, sent these packets
pub record SendsTurn (before : ServerState) (others : ℕ) (sents : List Sent)
    (after : ServerState) : Type 0 where
  pub sends : Sends before (others + 1) sents after
  pub ends : map (λ (s : Sent). s.ends_turn) sents ≡ replicate others false ++ true ∷ []

keeps-stayed : (before after : ServerState) → Stays before after → KeepsCarousel before after
keeps-stayed before after stays = record {
  standing = stays.standing;
  place = refl;
  halted = stays.halted;
  layout = stays.layout;
  failures = stays.failures;
}

-- nothing was asked for yet
pub Sends-none : (state : ServerState) → Sends state 0 [] state
unfolding sent_by
Sends-none state =
    record { sent = record { steps = refl; read = refl }; keeps = stays-none state }

map-more : {A B : Type 0} (f : A → B) (xs : List A) (x : A)
    → map f (xs ++ x ∷ []) ≡ map f xs ++ f x ∷ []
map-more f [] x = refl
map-more f (y ∷ xs) x = ap (λ l. f y ∷ l) (map-more f xs x)

module _ (before mid after : ServerState) (s : Sent) (one : SendsOne mid s after) (count : ℕ)
    (sents : List Sent) where
  -- one more request
  pub Sends-more : Sends before count sents mid → Sends before (count + 1) (sents ++ s ∷ []) after
  Sends-more so_far = record {
    sent = record {
      steps = subst (λ (steps : List Step). sent_by before.place steps
          ≡ Some (sents ++ s ∷ [], after.place))
          (replicate_more count Request)
          (requests-go_on before.place mid.place
          (replicate count Request) sents s so_far.sent.steps one.asked
          ∙ ap (λ (p : Place). Some (sents ++ s ∷ [], p)) (sym one.place));
      read = rw (
        map-more (λ (x : Sent). bytes_of_packet x.packet) sents s,
        map-more (λ (x : Sent). x.packet) sents s,
      )
          (read_each-append read_packet (packets_sent sents) (bytes_of_packet s.packet ∷ [])
          (map (λ (x : Sent). x.packet) sents) (s.packet ∷ []) so_far.sent.read
          (rw one.read refl));
    };
    keeps = keeps-more before mid after so_far.keeps one.keeps;
  }

  -- of a turn that does not end
  pub SendsWithinTurn-more : SendsWithinTurn before count sents mid → s.ends_turn ≡ false
      → SendsWithinTurn before (count + 1) (sents ++ s ∷ []) after
  SendsWithinTurn-more so_far e = record {
    sends = Sends-more so_far.sends;
    ends =
        map-more (λ (x : Sent). x.ends_turn) sents s ∙ ap (λ l. l ++ s.ends_turn ∷ []) so_far.ends
        ∙ ap (λ (b : Bool). replicate count false ++ b ∷ []) e ∙ replicate_more count false;
  }

  -- and of one that ends with it
  pub SendsTurn-ended : SendsWithinTurn before count sents mid → s.ends_turn ≡ true
      → SendsTurn before count (sents ++ s ∷ []) after
  SendsTurn-ended so_far e = record {
    sends = Sends-more so_far.sends;
    ends =
        map-more (λ (x : Sent). x.ends_turn) sents s ∙ ap (λ l. l ++ s.ends_turn ∷ []) so_far.ends
        ∙ ap (λ (b : Bool). replicate count false ++ b ∷ []) e;
  }

-- one more line was written
pub appended-more : (sents : List Sent) (s : Sent) (old now new : Option (List ℕ))
    → Appends old now (sent_lines sents) → Appends now new (sent_line s)
    → Appends old new (sent_lines (sents ++ s ∷ []))
appended-more sents s old now new a w = subst (Appends old new) (sym (sent_lines-more sents s))
    (Appends-trans old now new (sent_lines sents) (sent_line s) a w)

-- or some first bytes of it
abbrev front-more : (sents : List Sent) (s : Sent) (old now new : Option (List ℕ))
    → Appends old now (sent_lines sents) → WritesFront (sent_line s) now new
    → WritesFront (sent_lines (sents ++ s ∷ [])) old new
front-more sents s old now new a w = record {
  written = sent_lines sents ++ w.written;
  unwritten = w.unwritten;
  split = sent_lines-more sents s ∙ ap (λ l. sent_lines sents ++ l) w.split
      ∙ sym (append_assoc (sent_lines sents) w.written w.unwritten);
  appended = Appends-trans old now new (sent_lines sents) w.written a w.appended;
}

-- ---- replies that were played

module _ (before after : ServerState) (count : ℕ) (sents : List Sent)
    (s : Sends before count sents after) where
  many : length sents ≡ count
  many = sent-length count before.place after.place sents s.sent.steps

  ends-many : length (map (λ (x : Sent). x.ends_turn) sents) ≡ count
  ends-many = length-map sents (λ (x : Sent). x.ends_turn) ∙ many

  -- what was sent is what a request asks for, or some first packets of it
  plays : (request : Result Line Refusal) (some : Bool)
      → AreAsked before.standing.geometry request some (map (λ (x : Sent). x.ends_turn) sents)
      → PlaysForRequest before request some sents after
  plays request some asked = record {
    asked = asked;
    sent = subst (λ n. HasSent before.place n sents after.place) (sym many) s.sent;
    keeps = s.keeps;
  }

  plays-next : PlaysForRequest before (Ok (asks.Next count)) false sents after
  plays-next = plays (Ok (asks.Next count)) false ends-many

  plays-some : (all : ℕ) → count < all
      → PlaysForRequest before (Ok (asks.Next all)) true sents after
  plays-some all few = plays (Ok (asks.Next all)) true
      (subst (λ n. n < all) (sym ends-many) few)

plays-within : (before after : ServerState) (count : ℕ) (sents : List Sent)
    → SendsWithinTurn before count sents after
    → PlaysForRequest before (Ok asks.Turn) true sents after
plays-within before after count sents s =
    plays before after count sents s.sends (Ok asks.Turn) true (count, s.ends)

plays-turn : (before after : ServerState) (others : ℕ) (sents : List Sent)
    → SendsTurn before others sents after → PlaysForRequest before (Ok asks.Turn) false sents after
plays-turn before after others sents s =
    plays before after (others + 1) sents s.sends (Ok asks.Turn) false (others, s.ends)

-- the request behind them failed
plays-behind : (before mid after : ServerState) (request : Result Line Refusal)
    (sents : List Sent) → PlaysForRequest before request true sents mid → Stays mid after
    → PlaysForRequest before request true sents after
plays-behind before mid after request sents p stays = record {
  asked = p.asked;
  sent = subst (λ (q : Place). HasSent before.place (length sents) sents q) (sym stays.place)
      p.sent;
  keeps = keeps-more before mid after p.keeps (keeps-stayed mid after stays);
}

abbrev never : (before after : ServerState) → IsTrue false → Rises before.failures after.failures
never before after e = absurd (cc)

less_or_same : (m n : ℕ) → m ≤ n → (m < n) ⊎ (m ≡ n)
less_or_same m n le = ⊎_elim {C = (m < n) ⊎ (m ≡ n)}
    (λ most. let more = most.1 in inr (omega (arith, le, more)))
    (λ less. inl less.1) (leb_tells n m)

module _ (before after : ServerState) (going : IsFalse before.halted)
    (old new : Option (List ℕ)) where
  -- a `next` line was answered
  pub Answered-next : (count : ℕ) (sents : List Sent) → Sends before count sents after
      → Appends old new (sent_lines sents)
      → AnswersRequest {T = Unit {0}} (Ok tt) false before (Ok (asks.Next count)) after old new
  unfolding IsAnswer text_of
  Answered-next count sents s w = (
    played sents false,
    refl,
    record {
      answers = decided (λ needs. going) (
        sents,
        false,
        refl,
        plays-next before after count sents s,
        never before after,
      );
      written = w;
    },
  )

  -- a `turn` line was answered
  pub Answered-turn : (others : ℕ) (sents : List Sent) → SendsTurn before others sents after
      → Appends old new (sent_lines sents)
      → AnswersRequest {T = Unit {0}} (Ok tt) false before (Ok asks.Turn) after old new
  unfolding IsAnswer text_of
  Answered-turn others sents s w = (
    played sents false,
    refl,
    record {
      answers = decided (λ needs. going) (
        sents,
        false,
        refl,
        plays-turn before after others sents s,
        never before after,
      );
      written = w;
    },
  )

-- the refusal's line ends the reply
module _ {T : Type 0} (result : Result T WriteFault) (before mid after : ServerState)
    (going : IsFalse before.halted) (old now new : Option (List ℕ)) (made : ℕ) (sents : List Sent)
    (so_far : Appends old now (sent_lines sents)) (failing : FailsToSend mid after)
    (written : Writes result (refusal_line DeviceFault) now new) where
  answers-cut : (request : Result Line Refusal)
      → IsAnswer before request (played sents true) after
      → AnswersRequest result false before request after old new
  unfolding text_of
  answers-cut request a = (played sents true, refl, with result written)
    where
      with : (r : Result T WriteFault) → Writes r (refusal_line DeviceFault) now new
          → AnswersWith r before request (played sents true) after old new
      with (Ok done) w = record {
        answers = decided (λ needs. going) a;
        written = Appends-trans old now new (sent_lines sents) (refusal_line DeviceFault) so_far w;
      }
      with (Err fault) w = record {
        begins = whole (decided (λ needs. going) a);
        written = record {
          written = sent_lines sents ++ w.written;
          unwritten = w.unwritten;
          split = ap (λ l. sent_lines sents ++ l) w.split
              ∙ sym (append_assoc (sent_lines sents) w.written w.unwritten);
          appended = Appends-trans old now new (sent_lines sents) w.written so_far w.appended;
        };
        in_order = λ first last e. absurd (not_played sents (first ++ last ∷ []) e);
        cut_in_order = λ others e.
            let same : others ≡ sents = sym (ap sents_of e) in
            let long : length (sent_lines others) ≡ length (sent_lines sents) =
            ap (λ l. length (sent_lines l)) same in
            omega (arith, long, length-append (sent_lines sents) w.written);
      }

  risen : (keeps : KeepsCarousel before mid) → Rises before.failures after.failures
  risen keeps = rises_on before.failures mid.failures after.failures keeps.failures
      failing.stays.failures failing.rises

  -- fewer packets than a `next` line asks for, and the line of the fault behind them
  pub AnswersRequest-next_cut : (count : ℕ) → made < count → Sends before made sents mid
      → AnswersRequest result false before (Ok (asks.Next count)) after old new
  unfolding IsAnswer
  AnswersRequest-next_cut count few s =
      let all = plays-some before mid made sents s count few in
      answers-cut (Ok (asks.Next count)) (
        sents,
        true,
        refl,
        plays-behind before mid after (Ok (asks.Next count)) sents all failing.stays,
        λ e. risen s.keeps,
      )

  -- packets within a turn, and the line of the fault behind them
  pub AnswersRequest-turn_cut : SendsWithinTurn before made sents mid
      → AnswersRequest result false before (Ok asks.Turn) after old new
  unfolding IsAnswer
  AnswersRequest-turn_cut s =
      let all = plays-within before mid made sents s in
      answers-cut (Ok asks.Turn) (
        sents,
        true,
        refl,
        plays-behind before mid after (Ok asks.Turn) sents all failing.stays,
        λ e. risen s.sends.keeps,
      )

-- the line of a packet was broken off
module _ (fault : WriteFault) (before mid after : ServerState) (going : IsFalse before.halted)
    (old now new : Option (List ℕ)) (s : Sent) (one : SendsOne mid s after)
    (written : WritesFront (sent_line s) now new) (made : ℕ) (sents : List Sent)
    (so_far : Appends old now (sent_lines sents)) where
  broken : (request : Result Line Refusal)
      → Begins before request (played (sents ++ s ∷ []) false) after
      → AnswersRequest {T = Unit {0}} (Err fault) false before request after old new
  unfolding text_of
  broken request b = (
    played (sents ++ s ∷ []) false,
    refl,
    record {
      begins = b;
      written = front-more sents s old now new so_far written;
      in_order = λ first last e. in_order-begun sents s written.written first last e;
      cut_in_order = λ others e. absurd (not_cut (sents ++ s ∷ []) others e);
    },
  )

  so_more : Sends before made sents mid → Sends before (made + 1) (sents ++ s ∷ []) after
  so_more so = Sends-more before mid after s one made sents so

  whole-next : (count : ℕ) → Sends before count (sents ++ s ∷ []) after
      → Begins before (Ok (asks.Next count)) (played (sents ++ s ∷ []) false) after
  unfolding IsAnswer
  whole-next count so = whole (decided (λ needs. going) (
    sents ++ s ∷ [],
    false,
    refl,
    plays-next before after count (sents ++ s ∷ []) so,
    never before after,
  ))

  -- of a `next` line
  pub BrokenOff-next : (count : ℕ) → made + 1 ≤ count → Sends before made sents mid
      → AnswersRequest {T = Unit {0}} (Err fault) false before (Ok (asks.Next count)) after old new
  BrokenOff-next count few so = broken (Ok (asks.Next count))
      (⊎_elim {C = Begins before (Ok (asks.Next count)) (played (sents ++ s ∷ []) false) after}
      (λ less. begun (sents ++ s ∷ []) going refl
      (plays-some before after (made + 1) (sents ++ s ∷ []) (so_more so) count less))
      (λ same. whole-next count (subst (λ n. Sends before n (sents ++ s ∷ []) after) same
      (so_more so))) (less_or_same (made + 1) count few))

  begun-turn : (ends : Bool) → s.ends_turn ≡ ends → SendsWithinTurn before made sents mid
      → Begins before (Ok asks.Turn) (played (sents ++ s ∷ []) false) after
  unfolding IsAnswer
  begun-turn true e so = whole (decided (λ needs. going) (
    sents ++ s ∷ [],
    false,
    refl,
    plays-turn before after made (sents ++ s ∷ [])
        (SendsTurn-ended before mid after s one made sents so e),
    never before after,
  ))
  begun-turn false e so = begun (sents ++ s ∷ []) going refl
      (plays-within before after (made + 1) (sents ++ s ∷ [])
      (SendsWithinTurn-more before mid after s one made sents so e))

  -- and of a `turn` line
  pub BrokenOff-turn : SendsWithinTurn before made sents mid
      → AnswersRequest {T = Unit {0}} (Err fault) false before (Ok asks.Turn) after old new
  BrokenOff-turn so = broken (Ok asks.Turn) (begun-turn s.ends_turn refl so)
