-- Replies are right by the rules of commands.
use Rattle.std.proofs.Common.{◌≡◌, ◌⊎◌, inl, inr, ℕ, ◌<◌, Bool, true, false, List, [], ◌∷◌, length}
use Rattle.std.proofs.Common.{Option, Some, None, Result, Ok, Err, refl, sym, ap, ◌∙◌, subst}
use Rattle.std.proofs.lemmas.Bool.{and_parts, le-ltb, leb-true}
use Rattle.std.specs.List.{list_all}
use Rattle.std.specs.Prelude.{⊤, All, IsTrue, IsFalse, if◌then◌else◌, nat_le, nat_lt, ◌&&◌, ◌==◌}
use Rattle.std.specs.Prelude.{not}
use Rattle.std.specs.Str.{is_utf8}
use Rattle.disk_model.specs.Disk.{Rises}
use Rattle.mot_journal.specs.declared.layout.Layout.TheVariants.{Two}
use Rattle.mot_journal.specs.Image.{Standing, stands_for}
use Rattle.mot_objects.specs.declared.command.Item.{Item}
use Rattle.mot_lines.specs.declared.line.Line.{Line}
use Rattle.mot_lines.specs.declared.line.Line.TheVariants as asks
use Rattle.mot_lines.specs.declared.line.TheConstants.{MAX_LINE, MAX_PACKETS}
use Rattle.mot_lines.specs.Fields.{body_in, content_in, kind_in, mime_in, name_in, number_to}
use Rattle.mot_lines.specs.Fields.{period_in, segment_in, number_of_word, words_of}
use Rattle.mot_lines.specs.Line.{NeedsMemory, alone_of, description_of, line_of, next_of, period_of}
use Rattle.mot_lines.specs.Line.{put_of, asked_by, raw_of, replace_of, request_of, withdraw_of}
use Rattle.mot_numbers.specs.Refusal.{◌>>=◌}
use Rattle.mot_lines.specs.Verb.{verb_of}
use Rattle.mot_lines.specs.declared.line.verb.Verb.{Verb}
use Rattle.mot_lines.specs.declared.line.verb.Verb.TheVariants as verb
use Rattle.mot_lines.specs.Text.{done_line, refusal_line}
use Rattle.hex.specs.Hex.{decode_of}
use Rattle.mot_numbers.specs.declared.geometry.Geometry.{Geometry}
use Rattle.mot_numbers.specs.declared.refusal.Refusal.{Refusal}
use Rattle.mot_numbers.specs.declared.refusal.Refusal.TheVariants as why
use Rattle.mot_numbers.specs.Geometry.{is_within}
use Rattle.mot_objects.specs.declared.command.Command as command
use Rattle.mot_objects.specs.declared.command.Command.TheVariants.{Period, Put, Replace, Withdraw}
use Rattle.mot_objects.specs.declared.command.Done.{Done}
use Rattle.mot_objects.specs.declared.name.TheConstants.{MAX_NAME}
use Rattle.mot_objects.specs.Carousel.{Carousel, AllKeepRules}
use Rattle.mot_objects.specs.Name.{is_name}
use Rattle.mot_repository.specs.Outcome.{after_command, has_long_name}
use Rattle.mot_repository.proofs.Laws.{accepted_parts}
use Rattle.mot_playout.proofs.Laws.{IsRefused, refused_by}
use Rattle.mot_session.specs.Life.{AreRightReplies, Told}
use Rattle.mot_session.specs.Replies.{IsRightReply, IsShown}
use Rattle.mot_session.specs.Session.{Answers, IsAnswer, IsCommandAnswer, NeedsCarousel, Reply}
use Rattle.mot_session.specs.Session.{accepted, accepts, decided, fails, halted, no_memory, refused}
use Rattle.mot_session.specs.Session.{refuses, text_of, KeepsCarousel, ServerState, Stays}
use Rattle.mot_session.proofs.Shown.{list-reply, plays-shown, raw-reply}

-- ---- a command of a line has no name that is too long

abbrev pub IsShort : Result Line Refusal → Type 0
IsShort (Ok (asks.Command c)) = has_long_name Two c ≡ false
IsShort (Ok asks.List) = ⊤
IsShort (Ok (asks.Raw kind tid body)) = ⊤
IsShort (Ok (asks.Next count)) = ⊤
IsShort (Ok asks.Turn) = ⊤
IsShort (Err r) = ⊤

either : (b : Bool) (x y : Result Line Refusal) → IsShort x → IsShort y
    → IsShort (if b then x else y)
either true x y h k = h
either false x y h k = k

behind : {A : Type 0} (r : Result A Refusal) (f : A → Result Line Refusal)
    → ((a : A) → r ≡ Ok a → IsShort (f a)) → IsShort (r >>= f)
behind (Ok a) f h = h a refl
behind (Err r) f h = tt

short-name : (name : List ℕ) → is_name MAX_NAME name ≡ true → nat_lt MAX_NAME (length name) ≡ false
short-name name e =
    let text = (and_parts (is_within 1 MAX_NAME (length name) && is_utf8 name)
    (list_all (λ b. nat_lt 32 b && not (b == 127)) name) e).0 in
    let within = (and_parts (is_within 1 MAX_NAME (length name)) (is_utf8 name) text).0 in
    le-ltb MAX_NAME (length name)
    (leb-true (length name) MAX_NAME
    (and_parts (nat_le 1 (length name)) (nat_le (length name) MAX_NAME) within).1)

name-by : (word name : List ℕ) (b : Bool) → is_name MAX_NAME word ≡ b
    → ◌≡◌ {A = Result (List ℕ) Refusal} (if b then Ok word else Err why.BadName) (Ok name)
    → nat_lt MAX_NAME (length name) ≡ false
name-by word name true is e =
    let same : word ≡ name = cc in
    subst (λ (n : List ℕ). nat_lt MAX_NAME (length n) ≡ false) same (short-name word is)
name-by word name false is e = cc

name-short : (word name : List ℕ) → name_in word ≡ Ok name
    → nat_lt MAX_NAME (length name) ≡ false
unfolding name_in
name-short word name e = name-by word name (is_name MAX_NAME word) refl e

then-some : {A B : Type 0} (r : Result A Refusal) (f : A → Result B Refusal) (b : B)
    → r >>= f ≡ Ok b → (a : A) × (r ≡ Ok a) × (f a ≡ Ok b)
then-some (Ok a) f b e = (a, refl, e)
then-some (Err r) f b e = cc

named : (x d : Item) → ◌≡◌ {A = Result Item Refusal} (Ok x) (Ok d)
    → nat_lt MAX_NAME (length x.name) ≡ false → nat_lt MAX_NAME (length d.name) ≡ false
named x d e short = let same : x ≡ d = cc in
    subst (λ (y : Item). nat_lt MAX_NAME (length y.name) ≡ false) same short

described : (words : List (List ℕ)) (d : Item) → description_of words ≡ Ok d
    → nat_lt MAX_NAME (length d.name) ≡ false
unfolding description_of
described [] d e = cc
described (a ∷ []) d e = cc
described (a ∷ b ∷ []) d e = cc
described (a ∷ b ∷ c ∷ []) d e = cc
described (a ∷ b ∷ c ∷ x ∷ []) d e = cc
described (name ∷ kind ∷ subtype ∷ mime ∷ hex ∷ []) d e =
    let n = then-some (name_in name) (λ n.
    content_in (number_of_word kind) (number_of_word subtype) >>= λ c.
    mime_in mime >>= λ m. body_in (decode_of hex) >>= λ b.
    Ok (record { name = n; content = c; mime = m; body = b })) d e in
    let c = then-some (content_in (number_of_word kind) (number_of_word subtype)) (λ c.
    mime_in mime >>= λ m. body_in (decode_of hex) >>= λ b.
    Ok (record { name = n.0; content = c; mime = m; body = b })) d n.2 in
    let m = then-some (mime_in mime) (λ m. body_in (decode_of hex) >>= λ b.
    Ok (record { name = n.0; content = c.0; mime = m; body = b })) d c.2 in
    let b = then-some (body_in (decode_of hex)) (λ b.
    Ok (record { name = n.0; content = c.0; mime = m.0; body = b })) d m.2 in
    named (record { name = n.0; content = c.0; mime = m.0; body = b.0 }) d b.2
    (name-short name n.0 n.1)
described (a ∷ b ∷ c ∷ x ∷ y ∷ z ∷ words) d e = cc

put-short : (words : List (List ℕ)) → IsShort (put_of words)
put-short words = behind (description_of words)
    (λ d. Ok (asks.Command (Put d.name d.content d.mime d.body))) (λ d e. described words d e)

replace-short : (words : List (List ℕ)) → IsShort (replace_of words)
replace-short words = behind (description_of words)
    (λ d. Ok (asks.Command (Replace d.name d.content d.mime d.body)))
    (λ d e. described words d e)

withdraw-short : (words : List (List ℕ)) → IsShort (withdraw_of words)
withdraw-short [] = tt
withdraw-short (name ∷ []) =
    behind (name_in name) (λ n. Ok (asks.Command (Withdraw n))) (λ n e. name-short name n e)
withdraw-short (a ∷ b ∷ words) = tt

period-short : (words : List (List ℕ)) → IsShort (period_of words)
period-short [] = tt
period-short (number ∷ []) =
    behind (period_in (number_of_word number)) (λ n. Ok (asks.Command (Period n))) (λ n e. refl)
period-short (a ∷ b ∷ words) = tt

raw-short : (words : List (List ℕ)) → IsShort (raw_of words)
unfolding raw_of
raw-short [] = tt
raw-short (a ∷ []) = tt
raw-short (a ∷ b ∷ []) = tt
raw-short (a ∷ b ∷ c ∷ []) =
    behind (kind_in (number_of_word a)) (λ k. number_to 65535 (number_of_word b) >>= λ t.
    segment_in (decode_of c) >>= λ body. Ok (asks.Raw k t body)) (λ k e.
    behind (number_to 65535 (number_of_word b)) (λ t.
    segment_in (decode_of c) >>= λ body. Ok (asks.Raw k t body)) (λ t e.
    behind (segment_in (decode_of c)) (λ body. Ok (asks.Raw k t body)) (λ body e. tt)))
raw-short (a ∷ b ∷ c ∷ d ∷ words) = tt

next-short : (words : List (List ℕ)) → IsShort (next_of words)
next-short [] = tt
next-short (number ∷ []) =
    behind (number_to MAX_PACKETS (number_of_word number)) (λ n. Ok (asks.Next n)) (λ n e. tt)
next-short (a ∷ b ∷ words) = tt

turn-short : (words : List (List ℕ)) → IsShort (alone_of asks.Turn words)
turn-short [] = tt
turn-short (a ∷ words) = tt

list-short : (words : List (List ℕ)) → IsShort (alone_of asks.List words)
list-short [] = tt
list-short (a ∷ words) = tt

asked-short : (v : Option Verb) (words : List (List ℕ)) → IsShort (asked_by v words)
asked-short (Some verb.Raw) words = raw-short words
asked-short (Some verb.Put) words = put-short words
asked-short (Some verb.Replace) words = replace-short words
asked-short (Some verb.Withdraw) words = withdraw-short words
asked-short (Some verb.Period) words = period-short words
asked-short (Some verb.List) words = list-short words
asked-short (Some verb.Next) words = next-short words
asked-short (Some verb.Turn) words = turn-short words
asked-short None words = tt

request-short : (words : List (List ℕ)) → IsShort (request_of words)
unfolding request_of
request-short [] = tt
request-short (first ∷ words) = asked-short (verb_of first) words

pub line-short : (line : List ℕ) → IsShort (line_of line)
unfolding line_of
line-short line = either (nat_le (length line) MAX_LINE) (request_of (words_of line))
    (Err why.BadLine) (request-short (words_of line)) tt

-- ---- what a state keeps

-- the carousel of a server that is not halted
abbrev pub carousel_at : ServerState → Option Carousel
carousel_at s = if s.halted then None else Some s.standing.carousel

at_going : (s : ServerState) → IsFalse s.halted → carousel_at s ≡ Some s.standing.carousel
at_going s going = ap (λ b. if b then None else Some s.standing.carousel) going

at_halted : (s : ServerState) → IsTrue s.halted → carousel_at s ≡ None
at_halted s is = ap (λ b. if b then None else Some s.standing.carousel) is

at_same : (before after : ServerState) → after.standing ≡ before.standing
    → after.halted ≡ before.halted → carousel_at after ≡ carousel_at before
at_same before after standing same =
    ap (λ b. if b then None else Some after.standing.carousel) same
    ∙ ap (λ (s : Standing). if before.halted then None else Some s.carousel) standing

at_kept : (before after : ServerState) → KeepsCarousel before after
    → carousel_at after ≡ carousel_at before
at_kept before after keeps = at_same before after keeps.standing keeps.halted

at_stayed : (before after : ServerState) → Stays before after
    → carousel_at after ≡ carousel_at before
at_stayed before after stays = at_same before after stays.standing stays.halted

text-accepted : (d : Done) → text_of (accepted d) ≡ done_line d
unfolding text_of
text-accepted d = refl

text-refused : (r : Refusal) → text_of (refused r) ≡ refusal_line r
unfolding text_of
text-refused r = refl

refused-text : (reply : Reply) (r : Refusal) → reply ≡ refused r → text_of reply ≡ refusal_line r
refused-text reply r e = ap text_of e ∙ text-refused r

-- ---- what is answered is right

-- what a server that is not halted stands for is what some image has
abbrev pub HasImage : Standing → Type 0
HasImage s = (image : List ℕ) × All (λ b. b < 256) image × (stands_for image ≡ Ok s)

-- ---- a cause that follows

shown_weaker : (P Q : Type 0) → (P → Q) → (g : Geometry) (request : Result Line Refusal)
    (text : List ℕ) → IsShown P g request text → IsShown Q g request text
shown_weaker P Q so g request text (IsShown.listed numbers objects is endless e) =
    IsShown.listed numbers objects is endless e
shown_weaker P Q so g request text (IsShown.packets shown failed asked why_so e) =
    IsShown.packets shown failed asked (λ is. so (why_so is)) e

right_weaker : (P Q : Type 0) → (P → Q) → (g : Geometry) (c : Option Carousel)
    (request : Result Line Refusal) (text : List ℕ) (new : Option Carousel)
    → IsRightReply P g c request text new → IsRightReply Q g c request text new
right_weaker P Q so g c (Err r) text new is = is
right_weaker P Q so g c (Ok (asks.Raw kind tid body)) text new is =
    (is.0, shown_weaker P Q so g (Ok (asks.Raw kind tid body)) text is.1)
right_weaker P Q so g None (Ok (asks.Command x)) text new is = is
right_weaker P Q so g None (Ok asks.List) text new is = is
right_weaker P Q so g None (Ok (asks.Next count)) text new is = is
right_weaker P Q so g None (Ok asks.Turn) text new is = is
right_weaker P Q so g (Some c) (Ok (asks.Command x)) text None is = (is.0, so is.1)
right_weaker P Q so g (Some c) (Ok (asks.Command x)) text (Some new) is = is
right_weaker P Q so g (Some c) (Ok asks.List) text new is =
    (is.0, shown_weaker P Q so g (Ok asks.List) text is.1)
right_weaker P Q so g (Some c) (Ok (asks.Next count)) text new is =
    (is.0, shown_weaker P Q so g (Ok (asks.Next count)) text is.1)
right_weaker P Q so g (Some c) (Ok asks.Turn) text new is =
    (is.0, shown_weaker P Q so g (Ok asks.Turn) text is.1)

pub rights_weaker : (P Q : Type 0) → (P → Q) → (g : Geometry) (c : Option Carousel)
    (told : List Told) → AreRightReplies P g c told → AreRightReplies Q g c told
rights_weaker P Q so g c [] is = tt
rights_weaker P Q so g c (t ∷ told) (inl (needs, e, rest)) =
    inl (needs, e, rights_weaker P Q so g c told rest)
rights_weaker P Q so g c (t ∷ told) (inr (new, is, rest)) =
    inr (
      new,
      right_weaker P Q so g c (line_of t.line) t.text new is,
      rights_weaker P Q so g new told rest,
    )

module _ (before after : ServerState) (layout : before.layout ≡ Two) where
  abbrev g : Geometry
  g = before.standing.geometry

  abbrev c : Carousel
  c = before.standing.carousel

  -- the disk failed in the line
  abbrev Fails : Type 0
  Fails = Rises before.failures after.failures

  -- right for the request, so told
  abbrev RightSo : Option Carousel → Result Line Refusal → List ℕ → Option Carousel → Type 0
  RightSo old request text new =
      (NeedsMemory request × (text ≡ refusal_line why.OutOfMemory) × (new ≡ old))
      ⊎ IsRightReply Fails g old request text new

  as_told : (old old' new new' : Option Carousel) (request : Result Line Refusal)
      (text text' : List ℕ) → old ≡ old' → new ≡ new' → text ≡ text'
      → IsRightReply Fails g old' request text' new' → IsRightReply Fails g old request text new
  as_told old old' new new' request text text' e f h is =
      subst (λ o. IsRightReply Fails g o request text new) (sym e)
      (subst (λ n. IsRightReply Fails g old' request text n) (sym f)
      (subst (λ t. IsRightReply Fails g old' request t new') (sym h) is))

  accepted-right : (x : command.Command) (d : Done) (next : Standing)
      → after_command before.layout before.standing x ≡ Ok (next, d)
      → IsRightReply Fails g (Some c) (Ok (asks.Command x)) (done_line d) (Some next.carousel)
  accepted-right x d next outcome =
      let parts = accepted_parts Two before.standing x d next
      (subst (λ l. after_command l before.standing x ≡ Ok (next, d)) layout outcome) in
      inl (d, parts.rules, refl)

  refused-so : (x : command.Command) (r : Refusal) → IsRefused before.standing x r
      → IsRightReply Fails g (Some c) (Ok (asks.Command x)) (refusal_line r) (Some c)
  refused-so x r (inl is) = inr (inl (r, is, refl, refl))
  refused-so x r (inr (made, is, none, lacks)) =
      inr (inr (made, is, ap refusal_line none, refl, lacks))

  refused-right : (x : command.Command) (r : Refusal) → IsShort (Ok (asks.Command x))
      → HasImage before.standing → after_command before.layout before.standing x ≡ Err r
      → IsRightReply Fails g (Some c) (Ok (asks.Command x)) (refusal_line r) (Some c)
  refused-right x r short has e =
      refused-so x r (refused_by has.0 before.standing x r has.1 has.2 short
      (subst (λ l. after_command l before.standing x ≡ Err r) layout e))

  command-right : (x : command.Command) (reply : Reply) → IsFalse before.halted
      → IsShort (Ok (asks.Command x)) → HasImage before.standing
      → IsCommandAnswer before x reply after
      → IsRightReply Fails g (carousel_at before) (Ok (asks.Command x)) (text_of reply)
      (carousel_at after)
  command-right x reply going short has (accepts d next e outcome a) =
      as_told (carousel_at before) (Some c) (carousel_at after) (Some next.carousel)
      (Ok (asks.Command x)) (text_of reply) (done_line d) (at_going before going)
      (at_going after (a.halted ∙ going) ∙ ap (λ (s : Standing). Some s.carousel) a.standing)
      (ap text_of e ∙ text-accepted d) (accepted-right x d next outcome)
  command-right x reply going short has (refuses r e reason stays) =
      as_told (carousel_at before) (Some c) (carousel_at after) (Some c)
      (Ok (asks.Command x)) (text_of reply) (refusal_line r) (at_going before going)
      (at_stayed before after stays ∙ at_going before going) (refused-text reply r e)
      (refused-right x r short has reason)
  command-right x reply going short has (fails e rises h) =
      as_told (carousel_at before) (Some c) (carousel_at after) None
      (Ok (asks.Command x)) (text_of reply) (refusal_line why.DeviceFault) (at_going before going)
      (at_halted after h.halted) (refused-text reply why.DeviceFault e) (refl, rises)

  -- a request that keeps the carousel, and is shown what it asks for
  abbrev IsRead : Result Line Refusal → Type 0
  IsRead (Ok asks.List) = ⊤
  IsRead (Ok (asks.Next count)) = ⊤
  IsRead (Ok asks.Turn) = ⊤
  IsRead (Ok (asks.Command x)) = ⊥
  IsRead (Ok (asks.Raw kind tid body)) = ⊥
  IsRead (Err r) = ⊥

  read-some : (request : Result Line Refusal) (text : List ℕ) → IsRead request
      → IsShown Fails g request text → IsRightReply Fails g (Some c) request text (Some c)
  read-some (Ok asks.List) text is shown = (refl, shown)
  read-some (Ok (asks.Next count)) text is shown = (refl, shown)
  read-some (Ok asks.Turn) text is shown = (refl, shown)
  read-some (Ok (asks.Command x)) text is shown = absurd is
  read-some (Ok (asks.Raw kind tid body)) text is shown = absurd is
  read-some (Err r) text is shown = absurd is

  read-right : (request : Result Line Refusal) (reply : Reply) → IsRead request
      → IsFalse before.halted → carousel_at after ≡ carousel_at before
      → IsShown Fails g request (text_of reply)
      → IsRightReply Fails g (carousel_at before) request (text_of reply) (carousel_at after)
  read-right request reply is going same shown =
      as_told (carousel_at before) (Some c) (carousel_at after) (Some c) request (text_of reply)
      (text_of reply) (at_going before going) (same ∙ at_going before going) refl
      (read-some request (text_of reply) is shown)

  answer-right : (request : Result Line Refusal) (reply : Reply)
      → (NeedsCarousel request → IsFalse before.halted) → IsShort request
      → (IsFalse before.halted → HasImage before.standing)
      → (IsFalse before.halted → AllKeepRules before.standing.carousel)
      → IsAnswer before request reply after
      → IsRightReply Fails g (carousel_at before) request (text_of reply) (carousel_at after)
  unfolding IsAnswer
  answer-right (Err r) reply going short has rules a =
      (refused-text reply r a.0, at_stayed before after a.1)
  answer-right (Ok (asks.Command x)) reply going short has rules a =
      command-right x reply (going tt) short (has (going tt)) a
  answer-right (Ok asks.List) reply going short has rules a =
      read-right (Ok asks.List) reply tt (going tt) (at_stayed before after a.1)
      (subst (λ x. IsShown Fails g (Ok asks.List) (text_of x)) (sym a.0)
      (list-reply g c (rules (going tt))))
  answer-right (Ok (asks.Raw kind tid body)) reply going short has rules a = (
    at_stayed before after a.1,
    subst (λ x. IsShown Fails g (Ok (asks.Raw kind tid body)) (text_of x)) (sym a.0)
        (raw-reply g kind tid body),
  )
  answer-right (Ok (asks.Next count)) reply going short has rules a =
      read-right (Ok (asks.Next count)) reply tt (going tt) (at_kept before after a.3.keeps)
      (plays-shown g before after (Ok (asks.Next count)) reply a.0 a.1 Fails refl a.2 a.3 a.4)
  answer-right (Ok asks.Turn) reply going short has rules a =
      read-right (Ok asks.Turn) reply tt (going tt) (at_kept before after a.3.keeps)
      (plays-shown g before after (Ok asks.Turn) reply a.0 a.1 Fails refl a.2 a.3 a.4)

  halted-some : (request : Result Line Refusal) → NeedsCarousel request
      → IsRightReply Fails g None request (refusal_line why.Halted) None
  halted-some (Ok asks.List) needs = (refl, refl)
  halted-some (Ok (asks.Next count)) needs = (refl, refl)
  halted-some (Ok asks.Turn) needs = (refl, refl)
  halted-some (Ok (asks.Command x)) needs = (refl, refl)
  halted-some (Ok (asks.Raw kind tid body)) needs = absurd needs
  halted-some (Err r) needs = absurd needs

  -- the reply to a line is right where it stands
  pub right_reply : (request : Result Line Refusal) (reply : Reply) → IsShort request
      → (IsFalse before.halted → HasImage before.standing)
      → (IsFalse before.halted → AllKeepRules before.standing.carousel)
      → Answers before request reply after
      → RightSo (carousel_at before) request (text_of reply) (carousel_at after)
  right_reply request reply short has rules (decided going a) =
      inr (answer-right request reply going short has rules a)
  right_reply request reply short has rules (halted is needs e s) =
      inr (as_told (carousel_at before) None (carousel_at after) None request (text_of reply)
      (refusal_line why.Halted) (at_halted before is)
      (at_stayed before after s ∙ at_halted before is) (refused-text reply why.Halted e)
      (halted-some request needs))
  right_reply request reply short has rules (no_memory needs e s) =
      inl (needs, refused-text reply why.OutOfMemory e, at_stayed before after s)

  -- so are all where those behind it are
  pub right_more : (Cause : Type 0) → (Fails → Cause) → (h : Geometry) → g ≡ h
      → (line text : List ℕ) (told : List Told)
      (old new : Option Carousel) → RightSo old (line_of line) text new
      → AreRightReplies Cause h new told
      → AreRightReplies Cause h old (record { line = line; text = text } ∷ told)
  right_more Cause so h same line text told old new (inl (needs, e, n)) rest =
      inl (needs, e, subst (λ o. AreRightReplies Cause h o told) n rest)
  right_more Cause so h same line text told old new (inr is) rest =
      inr (
        new,
        subst (λ (x : Geometry). IsRightReply Cause x old (line_of line) text new) same
            (right_weaker Fails Cause so g old (line_of line) text new is),
        rest,
      )

  command-layout : (x : command.Command) (reply : Reply)
      → IsCommandAnswer before x reply after → after.layout ≡ before.layout
  command-layout x reply (accepts d next e outcome a) = a.layout
  command-layout x reply (refuses r e reason stays) = stays.layout
  command-layout x reply (fails e rises h) = h.layout

  answer-layout : (request : Result Line Refusal) (reply : Reply)
      → IsAnswer before request reply after → after.layout ≡ before.layout
  unfolding IsAnswer
  answer-layout (Err r) reply a = a.1.layout
  answer-layout (Ok (asks.Command x)) reply a = command-layout x reply a
  answer-layout (Ok asks.List) reply a = a.1.layout
  answer-layout (Ok (asks.Raw kind tid body)) reply a = a.1.layout
  answer-layout (Ok (asks.Next count)) reply a = a.3.keeps.layout
  answer-layout (Ok asks.Turn) reply a = a.3.keeps.layout

  -- the layout stays
  pub layout_stays : (request : Result Line Refusal) (reply : Reply)
      → Answers before request reply after → after.layout ≡ before.layout
  layout_stays request reply (decided going a) = answer-layout request reply a
  layout_stays request reply (halted is needs e s) = s.layout
  layout_stays request reply (no_memory needs e s) = s.layout
