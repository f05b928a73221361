-- Playing, request by request.
use Rattle.std.proofs.Common.{◌≡◌, ℕ, suc, zero, Bool, true, false, List, [], ◌∷◌, ◌++◌, length}
use Rattle.std.proofs.Common.{map, replicate, Option, Some, refl, sym, ap, ◌∙◌, subst, inl, inr}
use Rattle.std.proofs.Common.{◌+◌, add-one}
use Rattle.std.proofs.lemmas.Bool.{false≢true}
use Rattle.std.proofs.lemmas.List.{map-append}
use Rattle.std.specs.Prelude.{◌⊎◌, Result, Ok, Err, OnErr, IsErr, MatchResult}
use Rattle.arrayvec.specs.ArrayVec.{ArrayVec}
use Rattle.mot_numbers.specs.Reading.{read_each}
use Rattle.mot_numbers.proofs.Laws.{read_each-append}
use Rattle.mot_packets.specs.Packet.{PacketFields, read_packet}
use Rattle.mot_packets.specs.Written.{bytes_of_packet}
use Rattle.mot_player.specs.AnyBodies.{IsStepOfSome, PlaysOn, PlaysToTheEnd}
use Rattle.mot_player.specs.Laws.{AreSent, IsStep, HasSent}
use Rattle.mot_player.specs.Place.{Place, Sent, Request, sent_by}
use Rattle.mot_player.specs.PlayerView as player
use Rattle.mot_player.proofs.Laws.{requests-go_on}
use Rattle.mot_playout.specs.Playing.{IsGoing, HasPlayed, HasPlayedTurn, bytes_of_packets}

-- one more at the end is one more at the beginning
replicate-more : {A : Type 0} (n : ℕ) (x : A) → replicate n x ++ x ∷ [] ≡ x ∷ replicate n x
replicate-more zero x = refl
replicate-more (suc n) x = ap (λ xs. x ∷ xs) (replicate-more n x)

length-more : {A : Type 0} (xs : List A) (x : A) → length (xs ++ x ∷ []) ≡ suc (length xs)
length-more [] x = refl
length-more (y ∷ xs) x = ap suc (length-more xs x)

abbrev sends : List Sent → Place → Option (List Sent × Place)
sends sents place = Some (sents, place)

-- after these packets one more was sent
module _ (old mid new : Place) (n : ℕ) (packets : List (List ℕ))
    (played : HasPlayed old n packets mid)
    (packet : List ℕ) (ends : Bool) (step : IsStep mid packet ends new) where
  are_sent : AreSent played.sents packets
  are_sent =
      subst (λ (ps : List (List ℕ)). AreSent played.sents ps) (sym played.bytes) played.sent.read

  steps-more : sent_by old (Request ∷ replicate n Request)
      ≡ sends (played.sents ++ step.sent ∷ []) new
  steps-more =
      ap (sent_by old) (sym (replicate-more n Request))
      ∙ requests-go_on old mid (replicate n Request) played.sents step.sent played.sent.steps
      step.asked
      ∙ ap (sends (played.sents ++ step.sent ∷ [])) (sym step.place)

  bytes-more : packets ++ packet ∷ []
      ≡ map (λ (s : Sent). bytes_of_packet s.packet) (played.sents ++ step.sent ∷ [])
  bytes-more =
      ap (λ (ps : List (List ℕ)). ps ++ packet ∷ []) played.bytes
      ∙ ap (λ (p : List ℕ). map (λ (s : Sent). bytes_of_packet s.packet) played.sents ++ p ∷ [])
      step.bytes
      ∙ sym (map-append (λ (s : Sent). bytes_of_packet s.packet) played.sents (step.sent ∷ []))

  one-read : read_each read_packet (packet ∷ []) ≡ Some (step.sent.packet ∷ [])
  one-read = rw step.reads refl

  read-more : AreSent (played.sents ++ step.sent ∷ []) (packets ++ packet ∷ [])
  read-more =
      read_each-append read_packet packets (packet ∷ []) (map (λ (s : Sent). s.packet) played.sents)
      (step.sent.packet ∷ []) are_sent one-read
      ∙ ap (λ (ps : List PacketFields). Some ps)
      (sym (map-append (λ (s : Sent). s.packet) played.sents (step.sent ∷ [])))

  sent-more : HasSent old (suc n) (played.sents ++ step.sent ∷ []) new
  sent-more = record {
    steps = steps-more;
    read = subst (λ (ps : List (List ℕ)). AreSent (played.sents ++ step.sent ∷ []) ps) bytes-more
        read-more;
  }

  ends-more : (before : List Bool) → map (λ (s : Sent). s.ends_turn) played.sents ≡ before →
      map (λ (s : Sent). s.ends_turn) (played.sents ++ step.sent ∷ []) ≡ before ++ ends ∷ []
  ends-more before e =
      map-append (λ (s : Sent). s.ends_turn) played.sents (step.sent ∷ [])
      ∙ ap (λ (bs : List Bool). bs ++ step.sent.ends_turn ∷ []) e
      ∙ ap (λ (b : Bool). before ++ b ∷ []) (sym step.ends)

-- of no requests no packets are played
pub HasPlayed-none : (place : Place) → HasPlayed place 0 [] place
unfolding sent_by
HasPlayed-none place =
    record { sents = []; sent = record { steps = refl; read = refl }; bytes = refl }

-- a request behind others plays one packet more
pub HasPlayed-more : (old mid new : Place) (n : ℕ) (packets : List (List ℕ))
    → HasPlayed old n packets mid →
    (packet : List ℕ) (ends : Bool) → IsStep mid packet ends new
    → HasPlayed old (suc n) (packets ++ packet ∷ []) new
HasPlayed-more old mid new n packets played packet ends step = record {
  sents = played.sents ++ step.sent ∷ [];
  sent = sent-more old mid new n packets played packet ends step;
  bytes = bytes-more old mid new n packets played packet ends step;
}

-- a turn of which no packet was played goes on
pub IsGoing-none : (place : Place) → IsGoing place [] place
unfolding HasPlayed-none
IsGoing-none place = record { played = HasPlayed-none place; going = refl }

going-more : (old mid new : Place) (packets : List (List ℕ)) (packet : List ℕ) (n : ℕ)
    → length (packets ++ packet ∷ []) ≡ n →
    (played : HasPlayed old n (packets ++ packet ∷ []) new) →
    map (λ (s : Sent). s.ends_turn) played.sents ≡ replicate n false
    → IsGoing old (packets ++ packet ∷ []) new
going-more old mid new packets packet n e played going =
    let P : ℕ → Type 0 = λ k. (p : HasPlayed old k (packets ++ packet ∷ []) new)
    × (map (λ (s : Sent). s.ends_turn) p.sents ≡ replicate k false) in
    let q : P (length (packets ++ packet ∷ [])) = subst P (sym e) (played, going) in
    record { played = q.0; going = q.1 }

-- a packet more that does not end the turn lets it go on
pub IsGoing-more : (old mid new : Place) (packets : List (List ℕ)) → IsGoing old packets mid
    → (packet : List ℕ)
    (ends : Bool) → IsStep mid packet ends new → ends ≡ false
    → IsGoing old (packets ++ packet ∷ []) new
unfolding HasPlayed-more
IsGoing-more old mid new packets g packet ends step more =
    going-more old mid new packets packet (suc (length packets)) (length-more packets packet)
    (HasPlayed-more old mid new (length packets) packets g.played packet ends step)
    (ends-more old mid new (length packets) packets g.played packet ends step
    (replicate (length packets) false) g.going
    ∙ ap (λ (b : Bool). replicate (length packets) false ++ b ∷ []) more
    ∙ replicate-more (length packets) false)

-- a packet more that ends the turn makes it one that was played
pub HasPlayedTurn-ended : (old mid new : Place) (packets : List (List ℕ)) → IsGoing old packets mid
    → (packet : List ℕ)
    (ends : Bool) → IsStep mid packet ends new → ends ≡ true
    → HasPlayedTurn old (packets ++ packet ∷ []) new
unfolding HasPlayed-more
HasPlayedTurn-ended old mid new packets g packet ends step last =
    let P : ℕ → Type 0 = λ k. (p : HasPlayed old k (packets ++ packet ∷ []) new)
    × (map (λ (s : Sent). s.ends_turn) p.sents ≡ replicate (length packets) false ++ true ∷ []) in
    let q : P (length packets + 1) = subst P (sym (add-one (length packets))) (
      HasPlayed-more old mid new (length packets) packets g.played packet ends step,
      ends-more old mid new (length packets) packets g.played packet ends step
          (replicate (length packets) false) g.going
          ∙ ap (λ (b : Bool). replicate (length packets) false ++ b ∷ []) last,
    ) in
    record { before = length packets; played = q.0; ends = q.1 }

-- the packets of a whole turn read as what was sent, by as many requests as the laws of turns ask
-- for
pub HasPlayedTurn-read : (old new : Place) (packets : List (List ℕ))
    (turn : HasPlayedTurn old packets new) → AreSent turn.played.sents packets
HasPlayedTurn-read old new packets turn =
    subst (λ (ps : List (List ℕ)). AreSent turn.played.sents ps) (sym turn.played.bytes)
    turn.played.sent.read

pub HasPlayedTurn-steps : (old new : Place) (packets : List (List ℕ))
    (turn : HasPlayedTurn old packets new)
    → sent_by old (Request ∷ replicate turn.before Request) ≡ Some (turn.played.sents, new)
HasPlayedTurn-steps old new packets turn =
    subst (λ (k : ℕ). sent_by old (replicate k Request) ≡ Some (turn.played.sents, new))
    (add-one turn.before) turn.played.sent.steps

-- the bytes of one packet more
pub bytes_of_packets-more : (packets : List (ArrayVec ℕ)) (packet : ArrayVec ℕ) →
    bytes_of_packets (packets ++ packet ∷ []) ≡ bytes_of_packets packets ++ packet.items ∷ []
bytes_of_packets-more packets packet =
    map-append (λ (p : ArrayVec ℕ). p.items) packets (packet ∷ [])

-- what holds anyhow holds on an error
pub OnErr-always : {A E : Type 0} (r : Result A E) (P : Type 0) → P → OnErr r P
OnErr-always (Ok x) P p = tt
OnErr-always (Err e) P p = p

-- one packet more, of some bodies
pub PlaysOn-more : (old mid new : player.PlayerView) (packets : List (List ℕ)) (packet : List ℕ) →
    PlaysOn old packets mid → IsStepOfSome mid packet false new →
    PlaysOn old (packets ++ packet ∷ []) new
PlaysOn-more old mid new [] packet on step =
    (new, subst (λ (s : player.PlayerView). IsStepOfSome s packet false new) on step, refl)
PlaysOn-more old mid new (p ∷ packets) packet on step =
    (on.0, on.1, PlaysOn-more on.0 mid new packets packet on.2 step)

-- and whether it ends the turn
pub plays_one_more : (old mid new : player.PlayerView) (packets : List (List ℕ)) (packet : List ℕ)
    (ends : Bool) → PlaysOn old packets mid → IsStepOfSome mid packet ends new →
    PlaysOn old (packets ++ packet ∷ []) new ⊎ PlaysToTheEnd old (packets ++ packet ∷ []) new
plays_one_more old mid new packets packet true on step = inr (record {
  before = packets;
  last = packet;
  mid = mid;
  all = refl;
  goes_on = on;
  ends = step;
})
plays_one_more old mid new packets packet false on step =
    inl (PlaysOn-more old mid new packets packet on step)

-- what is claimed of an error holds of a result that is one
pub MatchResult-failed : {A E : Type 0} (r : Result A E) (P : A → Type 0) (Q : Type 0) → IsErr r →
    Q → MatchResult r P (λ e. Q)
MatchResult-failed (Ok x) P Q err q = absurd (false≢true err)
MatchResult-failed (Err e) P Q err q = q
