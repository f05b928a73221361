-- What a whole reply shows of the line that it answers.
use Rattle.std.proofs.Common.{◌≡◌, inl, inr, ℕ, zero, suc, ◌+◌, ◌-◌, ◌*◌, ◌/◌, ◌%◌, Bool, true}
use Rattle.std.proofs.Common.{false, List, [], ◌∷◌, ◌++◌, length, map, Option, Some, None, Result}
use Rattle.std.proofs.Common.{Ok, Err, refl, sym, ap, ◌∙◌, subst, arith, append_assoc, append-nil}
use Rattle.std.proofs.Common.{length-append}
use Rattle.std.proofs.lemmas.Bool.Decides.{nat_tests}
use Rattle.std.proofs.lemmas.List.Elements.{All-append, All-cons, All-nil, All-weaker}
use Rattle.std.specs.Fmt.{decimal, digit_glyph, digits, digits_onto}
use Rattle.std.specs.Int.{div_ceil, to_be_bytes, w16}
use Rattle.std.specs.List.{AllByRecursion, flat_map}
use Rattle.std.specs.Prelude.{◌&&◌, ◌==◌, ⊤, MatchOption, codes, nat_eq, nat_lt, not, replicate}
use Rattle.std.specs.Prelude.{if◌then◌else◌, IsFalse, IsTrue}
use Rattle.mot_base.specs.Checksum.{crc_of}
use Rattle.mot_groups.specs.Group.{GroupFields, bytes_of_group, segment_content}
use Rattle.mot_lines.specs.declared.line.Line.{Line}
use Rattle.mot_lines.specs.declared.line.Line.TheVariants as asks
use Rattle.mot_lines.specs.Lines.{HasNoLineEnd}
use Rattle.mot_lines.specs.Listing.{listing_text, mime_word, object_line}
use Rattle.mot_lines.specs.Text.{done_line, field, packet_line, played_line, refusal_line}
use Rattle.mot_lines.specs.Text.{taken_words}
use Rattle.mot_numbers.specs.Reading.{◌>>=◌}
use Rattle.mot_numbers.specs.Geometry.{packet_room}
use Rattle.mot_numbers.specs.declared.geometry.Geometry.{Geometry}
use Rattle.mot_numbers.specs.declared.group_kind.GroupKind.{GroupKind}
use Rattle.mot_numbers.specs.declared.refusal.Refusal.{Refusal}
use Rattle.mot_numbers.specs.declared.refusal.Refusal.TheVariants.{DeviceFault, Halted, OutOfMemory}
use Rattle.mot_objects.specs.Carousel.{Carousel, Object, AllKeepRules, KeepsRules}
use Rattle.mot_objects.specs.Name.{IsMime, IsName}
use Rattle.mot_objects.specs.declared.command.Command as command
use Rattle.mot_objects.specs.declared.command.Done.{Done}
use Rattle.mot_packets.specs.Written.{bytes_of_packet}
use Rattle.mot_packets.proofs.Laws.{length-packets_of_group}
use Rattle.mot_player.specs.Place.{Place, Request, Sent, request, sent_by}
use Rattle.mot_session.specs.Session.{PlaysForRequest, sent_lines, ServerState, raw_group}
use Rattle.mot_session.specs.Session.{raw_packets, Answers, decided, halted, no_memory, IsAnswer}
use Rattle.mot_session.specs.Session.{IsCommandAnswer, NeedsCarousel, Reply, accepted, accepts}
use Rattle.mot_session.specs.Session.{fails, listing, packets, played, refused, refuses, text_of}
use Rattle.mot_session.specs.Replies.{AreAsked, IsReply, IsShown, Shown, ends_of, shown_lines}
use Rattle.mot_session.specs.Served.{Begins, whole}

-- ---- bytes that end no line

abbrev NoEnd : ℕ → Type 0
NoEnd b = nat_eq b 10 ≡ false

pub joined : (xs ys : List ℕ) → HasNoLineEnd xs → HasNoLineEnd ys → HasNoLineEnd (xs ++ ys)
joined xs ys = All-append NoEnd xs ys

glyph-endless : (d : ℕ) (b : Bool) → nat_eq (if b then 48 + d else 87 + d) 10 ≡ false
glyph-endless d true = grind (arith, nat_tests)
glyph-endless d false = grind (arith, nat_tests)

one-of : (b : Bool) (xs ys : List ℕ) → HasNoLineEnd xs → HasNoLineEnd ys
    → HasNoLineEnd (if b then xs else ys)
one-of true xs ys h k = h
one-of false xs ys h k = k

digits-endless : (k n : ℕ) (acc : List ℕ) → HasNoLineEnd acc
    → HasNoLineEnd (digits_onto k 10 false n acc)
digits-endless zero n acc h = h
digits-endless (suc k) n acc h =
    let more = All-cons NoEnd (digit_glyph false (n % 10)) acc
    (glyph-endless (n % 10) (nat_lt (n % 10) 10)) h in
    one-of (n / 10 == 0) (digit_glyph false (n % 10) ∷ acc)
    (digits_onto k 10 false (n / 10) (digit_glyph false (n % 10) ∷ acc)) more
    (digits-endless k (n / 10) (digit_glyph false (n % 10) ∷ acc) more)

pub number-endless : (n : ℕ) → HasNoLineEnd (decimal n)
unfolding digits
number-endless n = digits-endless 64 n [] (All-nil NoEnd)

pub tested : (xs : List ℕ) → AllByRecursion NoEnd xs → HasNoLineEnd xs
tested [] h = All-nil NoEnd
tested (x ∷ xs) h = All-cons NoEnd x xs h.0 (tested xs h.1)

space-endless : HasNoLineEnd (codes " ")
space-endless = tested (codes " ") (refl, tt)

field-endless : (n : ℕ) → HasNoLineEnd (field n)
field-endless n = joined (decimal n) (codes " ") (number-endless n) space-endless

name-endless : (name : List ℕ) → IsName name → HasNoLineEnd name
name-endless name is =
    All-weaker (λ b. (nat_lt 32 b && not (b == 127)) ≡ true) NoEnd
    (λ b e. grind (arith, nat_tests)) name is.printed

mime-endless : (mime : Option (List ℕ)) → MatchOption mime ⊤ IsMime → HasNoLineEnd (mime_word mime)
mime-endless None is = tested (codes "-") (refl, tt)
mime-endless (Some mime) is =
    All-weaker (λ b. (nat_lt 32 b && nat_lt b 127) ≡ true) NoEnd
    (λ b e. grind (arith, nat_tests)) mime is.printed

taken-endless : (tid : Option ℕ) → HasNoLineEnd (taken_words tid)
taken-endless None = All-nil NoEnd
taken-endless (Some tid) = joined (codes "object ") (field tid)
    (tested (codes "object ") (refl, (refl, (refl, (refl, (refl, (refl, (refl, tt))))))))
    (field-endless tid)

-- ---- a command is done

abbrev pub ids_of : Done → List ℕ
ids_of d = taken_words d.object ++ codes "directory " ++ decimal d.directory

pub ids-endless : (d : Done) → HasNoLineEnd (ids_of d)
ids-endless d =
    joined (taken_words d.object ++ codes "directory ") (decimal d.directory)
    (joined (taken_words d.object) (codes "directory ") (taken-endless d.object)
    (tested (codes "directory ")
    (refl, (refl, (refl, (refl, (refl, (refl, (refl, (refl, (refl, (refl, tt))))))))))))
    (number-endless d.directory)

regroup-done : (done words directory number end : List ℕ)
    → done ++ words ++ directory ++ number ++ end ≡ done ++ (words ++ directory ++ number) ++ end
regroup-done done words directory number end = simp append_assoc

pub done-shown : (d : Done) → done_line d ≡ codes "done " ++ ids_of d ++ 10 ∷ []
done-shown d = regroup-done (codes "done ") (taken_words d.object) (codes "directory ")
    (decimal d.directory) (10 ∷ [])

-- ---- the carousel is listed

abbrev numbers_of : Carousel → List ℕ
numbers_of c =
    field c.period ++ field c.directory ++ field c.cursor ++ decimal (length c.objects)

abbrev words_of_object : Object → List ℕ
words_of_object o = field o.tid ++ field o.version ++ field o.content.content_type
    ++ field o.content.subtype ++ field (length o.body) ++ o.name ++ codes " " ++ mime_word o.mime

numbers-endless : (c : Carousel) → HasNoLineEnd (numbers_of c)
numbers-endless c =
    joined (field c.period ++ field c.directory ++ field c.cursor) (decimal (length c.objects))
    (joined (field c.period ++ field c.directory) (field c.cursor)
    (joined (field c.period) (field c.directory) (field-endless c.period)
    (field-endless c.directory)) (field-endless c.cursor)) (number-endless (length c.objects))

object-endless : (o : Object) → KeepsRules o → HasNoLineEnd (words_of_object o)
object-endless o rules =
    let one = joined (field o.tid) (field o.version) (field-endless o.tid)
    (field-endless o.version) in
    let two = joined (field o.tid ++ field o.version) (field o.content.content_type) one
    (field-endless o.content.content_type) in
    let three = joined (field o.tid ++ field o.version ++ field o.content.content_type)
    (field o.content.subtype) two (field-endless o.content.subtype) in
    let four = joined (field o.tid ++ field o.version ++ field o.content.content_type
    ++ field o.content.subtype) (field (length o.body)) three (field-endless (length o.body)) in
    let five = joined (field o.tid ++ field o.version ++ field o.content.content_type
    ++ field o.content.subtype ++ field (length o.body)) o.name four
    (name-endless o.name rules.name) in
    let six = joined (field o.tid ++ field o.version ++ field o.content.content_type
    ++ field o.content.subtype ++ field (length o.body) ++ o.name) (codes " ") five
    space-endless in
    joined (field o.tid ++ field o.version ++ field o.content.content_type
    ++ field o.content.subtype ++ field (length o.body) ++ o.name ++ codes " ") (mime_word o.mime)
    six (mime-endless o.mime rules.mime)

objects-endless : (objects : List Object) → AllByRecursion KeepsRules objects
    → AllByRecursion HasNoLineEnd (map words_of_object objects)
objects-endless [] rules = tt
objects-endless (o ∷ objects) rules =
    (object-endless o rules.0, objects-endless objects rules.1)

regroup-numbers : (a b c d e f : List ℕ) → a ++ b ++ c ++ d ++ e ++ f ≡ a ++ (b ++ c ++ d ++ e) ++ f
regroup-numbers a b c d e f = simp append_assoc

regroup-object : (a b c d e f g h i j : List ℕ)
    → a ++ b ++ c ++ d ++ e ++ f ++ g ++ h ++ i ++ j
    ≡ a ++ (b ++ c ++ d ++ e ++ f ++ g ++ h ++ i) ++ j
regroup-object a b c d e f g h i j = simp append_assoc

object-shown : (o : Object)
    → object_line o ≡ codes "object " ++ words_of_object o ++ 10 ∷ []
object-shown o = regroup-object (codes "object ") (field o.tid) (field o.version)
    (field o.content.content_type) (field o.content.subtype) (field (length o.body)) o.name
    (codes " ") (mime_word o.mime) (10 ∷ [])

objects-shown : (objects : List Object) → flat_map object_line objects
    ≡ flat_map (λ o. codes "object " ++ o ++ 10 ∷ []) (map words_of_object objects)
objects-shown [] = refl
objects-shown (o ∷ objects) =
    ap (λ l. l ++ flat_map object_line objects) (object-shown o)
    ∙ ap (λ l. (codes "object " ++ words_of_object o ++ 10 ∷ []) ++ l) (objects-shown objects)

listing-shown : (c : Carousel) → listing_text c
    ≡ codes "carousel " ++ numbers_of c ++ 10 ∷ []
    ++ flat_map (λ o. codes "object " ++ o ++ 10 ∷ []) (map words_of_object c.objects)
listing-shown c =
    ap (λ l. l ++ flat_map object_line c.objects)
    (regroup-numbers (codes "carousel ") (field c.period) (field c.directory) (field c.cursor)
    (decimal (length c.objects)) (10 ∷ []))
    ∙ ap (λ l. codes "carousel " ++ numbers_of c ++ 10 ∷ [] ++ l) (objects-shown c.objects)

-- ---- packets are shown

abbrev shown_raw : List (List ℕ) → List Shown
shown_raw ps = map {B = Shown} (λ (p : List ℕ). (p, false)) ps

raw-shown : (ps : List (List ℕ)) → flat_map packet_line ps ≡ shown_lines (shown_raw ps)
raw-shown [] = refl
raw-shown (p ∷ ps) = ap (λ l. packet_line p ++ l) (raw-shown ps)

raw-ends : (ps : List (List ℕ)) → ends_of (shown_raw ps) ≡ replicate (length ps) false
raw-ends [] = refl
raw-ends (p ∷ ps) = ap (λ (l : List Bool). false ∷ l) (raw-ends ps)

length-group : (g : GroupFields) → length (bytes_of_group g) ≡ length g.segment.bytes + 11
unfolding bytes_of_group
length-group g =
    let covered : List ℕ = (112 + g.segment.kind) ∷ (16 * g.index) ∷ segment_content g.segment in
    omega (arith, length-append g.segment.bytes (to_be_bytes w16 (crc_of covered)))

raw-count : (g : Geometry) (kind : GroupKind) (tid : ℕ) (body : List ℕ)
    → length (raw_packets g kind tid body) ≡ div_ceil (length body + 11) (g.packet - 5)
raw-count g kind tid body =
    length-packets_of_group (packet_room g) g.address 0 (bytes_of_group (raw_group kind tid body))
    ∙ ap (λ n. div_ceil n (packet_room g)) (length-group (raw_group kind tid body))

abbrev shown_of : List Sent → List Shown
shown_of sents = map {B = Shown} (λ (s : Sent). (bytes_of_packet s.packet, s.ends_turn)) sents

sents-shown : (sents : List Sent) → sent_lines sents ≡ shown_lines (shown_of sents)
sents-shown [] = refl
sents-shown (s ∷ sents) = ap
    (λ l. played_line (bytes_of_packet s.packet) s.ends_turn ++ l) (sents-shown sents)

sents-ends : (sents : List Sent)
    → ends_of (shown_of sents) ≡ map (λ (s : Sent). s.ends_turn) sents
sents-ends [] = refl
sents-ends (s ∷ sents) = ap (λ (l : List Bool). s.ends_turn ∷ l) (sents-ends sents)

abbrev length_sent : Option (List Sent × Place) → ℕ
length_sent None = 0
length_sent (Some x) = length x.0

sent-none : (sents : List Sent) (new : Place) → ◌≡◌ {A = Option (List Sent × Place)} None
    (Some (sents, new)) → ⊥
sent-none sents new e = cc

sent-behind : (n : ℕ) (s : Sent) (p : Option (List Sent × Place)) (sents : List Sent) (new : Place)
    → ((others : List Sent) (last : Place) → p ≡ Some (others, last) → length others ≡ n)
    → ◌>>=◌ {B = List Sent × Place} p (λ others. Some (s ∷ others.0, others.1)) ≡ Some (sents, new)
    → length sents ≡ suc n
sent-behind n s None sents new h e = absurd (sent-none sents new e)
sent-behind n s (Some x) sents new h e = sym (ap length_sent e) ∙ ap suc (h x.0 x.1 refl)

sent-one : (n : ℕ) (o : Option Sent) (sents : List Sent) (new : Place)
    → ((s : Sent) (others : List Sent) (last : Place)
    → sent_by s.place (replicate n Request) ≡ Some (others, last) → length others ≡ n)
    → ◌>>=◌ {B = List Sent × Place} o (λ s.
    ◌>>=◌ {B = List Sent × Place} (sent_by s.place (replicate n Request)) (λ others.
    Some (s ∷ others.0, others.1))) ≡ Some (sents, new) → length sents ≡ suc n
sent-one n None sents new h e = absurd (sent-none sents new e)
sent-one n (Some s) sents new h e =
    sent-behind n s (sent_by s.place (replicate n Request)) sents new (h s) e

-- so many requests send so many packets
pub sent-length : (n : ℕ) (old new : Place) (sents : List Sent)
    → sent_by old (replicate n Request) ≡ Some (sents, new) → length sents ≡ n
unfolding sent_by
sent-length zero old new sents e = sym (ap length_sent e)
sent-length (suc n) old new sents e =
    sent-one n (request old) sents new (λ s others last. sent-length n s.place last others) e

-- ---- a whole reply

none-failed : {Cause : Type 0} → IsTrue false → Cause
none-failed is = absurd (let e : false ≡ true = is in cc)

module _ (g : Geometry) where
  -- what is shown of a reply that is this one
  as_reply : (request : Result Line Refusal) (reply shown : Reply) → reply ≡ shown
      → IsReply g request (text_of shown) → IsReply g request (text_of reply)
  as_reply request reply shown e is = subst (λ r. IsReply g request (text_of r)) (sym e) is

  refusal-shown : (request : Result Line Refusal) (r : Refusal)
      → IsReply g request (text_of (refused r))
  unfolding text_of
  refusal-shown request r = inl (r, refl)

  done-reply : (c : command.Command) (d : Done)
      → IsReply g (Ok (asks.Command c)) (text_of (accepted d))
  unfolding text_of
  done-reply c d = inr (inl (c, d, refl, refl))

  command-shown : (before after : ServerState) (c : command.Command) (reply : Reply)
      → IsCommandAnswer before c reply after → IsReply g (Ok (asks.Command c)) (text_of reply)
  command-shown before after c reply (accepts d next e outcome a) =
      as_reply (Ok (asks.Command c)) reply (accepted d) e (done-reply c d)
  command-shown before after c reply (refuses r e reason stays) =
      as_reply (Ok (asks.Command c)) reply (refused r) e (refusal-shown (Ok (asks.Command c)) r)
  command-shown before after c reply (fails e rises h) =
      as_reply (Ok (asks.Command c)) reply (refused DeviceFault) e
      (refusal-shown (Ok (asks.Command c)) DeviceFault)

  as_shown : (Cause : Type 0) (request : Result Line Refusal) (reply shown : Reply)
      → reply ≡ shown
      → IsShown Cause g request (text_of shown) → IsShown Cause g request (text_of reply)
  as_shown Cause request reply shown e is =
      subst (λ r. IsShown Cause g request (text_of r)) (sym e) is

  pub list-reply : {Cause : Type 0} (c : Carousel) → AllKeepRules c
      → IsShown Cause g (Ok asks.List) (text_of (listing c))
  unfolding text_of
  list-reply c rules =
      IsShown.listed (numbers_of c) (map words_of_object c.objects) refl
      (numbers-endless c, objects-endless c.objects rules.objects) (listing-shown c)

  pub raw-reply : {Cause : Type 0} (kind : GroupKind) (tid : ℕ) (body : List ℕ)
      → IsShown Cause g (Ok (asks.Raw kind tid body)) (text_of (packets
      (raw_packets g kind tid body)))
  unfolding text_of
  raw-reply kind tid body =
      let ps : List (List ℕ) = raw_packets g kind tid body in
      IsShown.packets (shown_raw ps) false
      (raw-ends ps ∙ ap (λ n. replicate n false) (raw-count g kind tid body)) none-failed
      (raw-shown ps ∙ sym (append-nil (shown_lines (shown_raw ps))))

  played-reply : (Cause : Type 0) (request : Result Line Refusal) (sents : List Sent)
      → AreAsked g request false (ends_of (shown_of sents))
      → IsShown Cause g request (text_of (played sents false))
  unfolding text_of
  played-reply Cause request sents asked = IsShown.packets (shown_of sents) false asked none-failed
      (sents-shown sents ∙ sym (append-nil (shown_lines (shown_of sents))))

  cut-reply : (Cause : Type 0) (request : Result Line Refusal) (sents : List Sent)
      → AreAsked g request true (ends_of (shown_of sents)) → Cause
      → IsShown Cause g request (sent_lines sents ++ refusal_line DeviceFault)
  cut-reply Cause request sents asked why = IsShown.packets (shown_of sents) true asked (λ is. why)
      (ap (λ l. l ++ refusal_line DeviceFault) (sents-shown sents))

  cut-text : (Cause : Type 0) (request : Result Line Refusal) (sents : List Sent)
      → IsShown Cause g request (sent_lines sents ++ refusal_line DeviceFault)
      → IsShown Cause g request (text_of (played sents true))
  unfolding text_of
  cut-text Cause request sents is = is

  -- packets that were sent show what was asked for
  asked-so : (before after : ServerState) (request : Result Line Refusal) (some : Bool)
      (sents : List Sent) → before.standing.geometry ≡ g
      → PlaysForRequest before request some sents after
      → AreAsked g request some (ends_of (shown_of sents))
  asked-so before after request some sents same p =
      subst (λ (h : Geometry). AreAsked h request some (ends_of (shown_of sents))) same
      (subst (λ ends. AreAsked before.standing.geometry request some ends)
      (sym (sents-ends sents)) p.asked)

  played-some : (Cause : Type 0) (request : Result Line Refusal) (sents : List Sent)
      (failed : Bool) → AreAsked g request failed (ends_of (shown_of sents))
      → (IsTrue failed → Cause) → IsShown Cause g request (text_of (played sents failed))
  played-some Cause request sents true asked why =
      cut-text Cause request sents (cut-reply Cause request sents asked (why refl))
  played-some Cause request sents false asked why = played-reply Cause request sents asked

  pub plays-shown : (before after : ServerState) (request : Result Line Refusal) (reply : Reply)
      (sents : List Sent) (failed : Bool) (Cause : Type 0) → before.standing.geometry ≡ g
      → reply ≡ played sents failed → PlaysForRequest before request failed sents after
      → (IsTrue failed → Cause) → IsShown Cause g request (text_of reply)
  plays-shown before after request reply sents failed Cause same e p why =
      as_shown Cause request reply (played sents failed) e
      (played-some Cause request sents failed
      (asked-so before after request failed sents same p) why)

  answer-shown : (before after : ServerState) (request : Result Line Refusal) (reply : Reply)
      → before.standing.geometry ≡ g
      → (NeedsCarousel request → AllKeepRules before.standing.carousel)
      → IsAnswer before request reply after → IsReply g request (text_of reply)
  unfolding IsAnswer
  answer-shown before after (Err r) reply same rules a =
      as_reply (Err r) reply (refused r) a.0 (refusal-shown (Err r) r)
  answer-shown before after (Ok (asks.Command c)) reply same rules a =
      command-shown before after c reply a
  answer-shown before after (Ok asks.List) reply same rules a =
      as_reply (Ok asks.List) reply (listing before.standing.carousel) a.0
      (inr (inr (list-reply before.standing.carousel (rules tt))))
  answer-shown before after (Ok (asks.Raw kind tid body)) reply same rules a =
      as_reply (Ok (asks.Raw kind tid body)) reply (packets (raw_packets g kind tid body))
      (a.0 ∙ ap (λ h. packets (raw_packets h kind tid body)) same)
      (inr (inr (raw-reply kind tid body)))
  answer-shown before after (Ok (asks.Next count)) reply same rules a =
      inr (inr (plays-shown before after (Ok (asks.Next count)) reply a.0 a.1 ⊤ same a.2 a.3
      (λ is. tt)))
  answer-shown before after (Ok asks.Turn) reply same rules a =
      inr (inr (plays-shown before after (Ok asks.Turn) reply a.0 a.1 ⊤ same a.2 a.3 (λ is. tt)))

  -- the text of a reply that answers a request is a whole reply to it
  pub replied : (before after : ServerState) (request : Result Line Refusal) (reply : Reply)
      → before.standing.geometry ≡ g
      → (IsFalse before.halted → AllKeepRules before.standing.carousel)
      → Answers before request reply after → IsReply g request (text_of reply)
  replied before after request reply same rules (decided going a) =
      answer-shown before after request reply same (λ needs. rules (going needs)) a
  replied before after request reply same rules (halted is needs e s) =
      as_reply request reply (refused Halted) e (refusal-shown request Halted)
  replied before after request reply same rules (no_memory needs e s) =
      as_reply request reply (refused OutOfMemory) e (refusal-shown request OutOfMemory)

  -- ---- a reply that was begun

  abbrev Goes : Result Line Refusal → List ℕ → Type 0
  Goes request text = (rest : List ℕ) × IsReply g request (text ++ rest)

  whole-goes : (request : Result Line Refusal) (text : List ℕ) → IsReply g request text
      → Goes request text
  whole-goes request text is =
      ([], subst (λ t. IsReply g request t) (sym (append-nil text)) is)

  played-goes : (request : Result Line Refusal) (sents : List Sent)
      → IsReply g request (sent_lines sents ++ refusal_line DeviceFault)
      → Goes request (text_of (played sents false))
  unfolding text_of
  played-goes request sents is = (refusal_line DeviceFault, is)

  as_goes : (request : Result Line Refusal) (reply shown : Reply) → reply ≡ shown
      → Goes request (text_of shown) → Goes request (text_of reply)
  as_goes request reply shown e goes = subst (λ r. Goes request (text_of r)) (sym e) goes

  -- the text of a reply that was begun is the front of a whole one
  pub begun : (before after : ServerState) (request : Result Line Refusal) (reply : Reply)
      → before.standing.geometry ≡ g
      → (IsFalse before.halted → AllKeepRules before.standing.carousel)
      → Begins before request reply after → Goes request (text_of reply)
  begun before after request reply same rules (whole a) =
      whole-goes request (text_of reply) (replied before after request reply same rules a)
  begun before after request reply same rules (Begins.begun sents going e p) =
      as_goes request reply (played sents false) e
      (played-goes request sents (inr (inr (cut-reply ⊤ request sents
      (asked-so before after request true sents same p) tt))))

  -- and so is each front of it
  pub front_begun : (request : Result Line Refusal) (text front rest : List ℕ)
      → text ≡ front ++ rest → Goes request text → Goes request front
  front_begun request text front rest split goes = (
    rest ++ goes.0,
    subst (λ t. IsReply g request t)
        (ap (λ t. t ++ goes.0) split ∙ append_assoc front rest goes.0) goes.1,
  )
