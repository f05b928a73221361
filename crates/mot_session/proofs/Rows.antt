-- The definitions, computed on worked rows.
use Rattle.std.proofs.Common.{◌≡◌, inl, inr, ℕ, Bool, true, false, List, [], ◌∷◌, Option, Some}
use Rattle.std.proofs.Common.{None, Result, Ok, Err, refl, sym, ap, ◌∙◌, subst}
use Rattle.std.proofs.lemmas.Slice.Eq.{bytes_eq-Decides}
use Rattle.std.specs.Fmt.{digits}
use Rattle.std.specs.Prelude.{⊤, bytes_eq, codes, if◌then◌else◌, nat_le, take}
use Rattle.mot_base.specs.Checksum.{crc_of, bits_of, bits_of_bytes, number_of_bits, added_to_front}
use Rattle.mot_base.specs.Checksum.{remainder}
use Rattle.mot_groups.specs.Group.{bytes_of_group}
use Rattle.mot_numbers.specs.declared.group_kind.GroupKind.TheVariants.{Body}
use Rattle.mot_session.specs.declared.serving.TheConstants.{READ_SIZE, MAX_READS}
use Rattle.mot_lines.specs.declared.line.Line.{Line}
use Rattle.mot_lines.specs.declared.line.Line.TheVariants as asks
use Rattle.mot_lines.specs.Line.{NeedsMemory, line_of}
use Rattle.mot_lines.specs.Text.{done_line, refusal_line}
use Rattle.mot_numbers.specs.declared.geometry.Geometry.{Geometry}
use Rattle.mot_numbers.specs.declared.refusal.Refusal.{Refusal}
use Rattle.mot_numbers.specs.declared.refusal.Refusal.TheVariants as why
use Rattle.mot_objects.specs.declared.command.Command as command
use Rattle.mot_objects.specs.declared.command.Command.TheVariants.{Put}
use Rattle.mot_objects.specs.declared.command.Done.{Done}
use Rattle.mot_objects.specs.Carousel.{Carousel, change}
use Rattle.mot_objects.specs.Name.{ContentNumbers}
use Rattle.mot_playout.specs.Life.{carousel_from}
use Rattle.mot_session.specs.Life.{AreRightReplies, is_done}
use Rattle.mot_session.specs.Session.{raw_group}
use Rattle.mot_session.specs.Replies.{IsReply, IsRightReply, IsShown}

hello_group : bytes_of_group (raw_group Body 2 (codes "hello"))
    ≡ 0x74 ∷ 0 ∷ 0x80 ∷ 0 ∷ 0x12 ∷ 0 ∷ 2 ∷ 0 ∷ 5 ∷ 0x68 ∷ 0x65 ∷ 0x6c ∷ 0x6c ∷ 0x6f ∷ 0x34
    ∷ 0xcf ∷ []
unfolding bytes_of_group crc_of bits_of bits_of_bytes number_of_bits added_to_front remainder
hello_group = refl

read_size : READ_SIZE ≡ 4096
read_size = refl

max_reads : MAX_READS ≡ 4294967296
max_reads = refl

-- ---- what no whole reply is

not-so : (text other : List ℕ) → text ≡ other → is_done other ≡ false → is_done text ≡ true → ⊥
not-so text other e isnt so =
    let is : false ≡ true = sym isnt ∙ ap is_done (sym e) ∙ so in cc

not-empty : (b : ℕ) (bytes : List ℕ) → [] ≡ b ∷ bytes → ⊥
not-empty b bytes e = cc

not-list : (c : command.Command) →
    (let e : Result Line Refusal = Ok (asks.Command c) in e ≡ Ok asks.List) → ⊥
not-list c e = cc

-- no command is answered by no bytes
no_silent_reply : (g : Geometry) (c : command.Command)
    → IsReply g (Ok (asks.Command c)) [] → ⊥
no_silent_reply g c (inl (r, e)) = not-empty _ _ e
no_silent_reply g c (inr (inl (d, ids, is, e))) = not-empty _ _ e
no_silent_reply g c (inr (inr (IsShown.listed numbers objects is endless e))) = not-list c is
no_silent_reply g c (inr (inr (IsShown.packets shown true asked why_so e))) = asked
no_silent_reply g c (inr (inr (IsShown.packets shown false asked why_so e))) = asked

-- a line that is no request is not done
no_request_done : (g : Geometry) (r : Refusal) (text : List ℕ) → IsReply g (Err r) text
    → is_done text ≡ true → ⊥
no_request_done g r text (inl (s, e)) so = not-so text (refusal_line s) e refl so
no_request_done g r text (inr (inl (d, ids, is, e))) so = cc
no_request_done g r text (inr (inr (IsShown.listed numbers objects is endless e))) so = cc
no_request_done g r text (inr (inr (IsShown.packets shown true asked why_so e))) so = asked
no_request_done g r text (inr (inr (IsShown.packets shown false asked why_so e))) so = asked

-- ---- what no right answer is

differ : (x y : List ℕ) → bytes_eq x y ≡ false → x ≡ y → ⊥
differ x y isnt e = let is : false ≡ true = sym isnt ∙ (bytes_eq-Decides x y).1 e in cc

-- a small object of this name, put
abbrev small_put : ContentNumbers → command.Command
small_put content = Put (codes "a") content None (1 ∷ 2 ∷ [])

taken_by : (is_full : Bool) (r : Refusal) (made : Carousel × Done)
    → ◌≡◌ {A = Result (Carousel × Done) Refusal}
    (if is_full then Err why.TooManyObjects else Ok made) (Err r)
    → refusal_line why.NameTaken ≡ refusal_line r → ⊥
unfolding digits
taken_by true r made is e =
    let same : why.TooManyObjects ≡ r = cc in
    differ (refusal_line why.NameTaken) (refusal_line why.TooManyObjects) refl
    (e ∙ ap refusal_line (sym same))
taken_by false r made is e = cc

-- so a session on a new disk does not answer `refused 9` to it
refused_put : (g : Geometry) (first : ℕ) (content : ContentNumbers) (line : List ℕ)
    → line_of line ≡ Ok (asks.Command (small_put content))
    → AreRightReplies ⊤ g (Some (carousel_from first))
    (record { line = line; text = refusal_line why.NameTaken } ∷ []) → ⊥
unfolding change digits
refused_put g first content line asked (inl (needs, memory, rest)) =
    differ (refusal_line why.NameTaken) (refusal_line why.OutOfMemory) refl memory
refused_put g first content line asked (inr (new, is, rest)) =
    by new (subst (λ r. IsRightReply ⊤ g (Some (carousel_from first)) r
    (refusal_line why.NameTaken) new) asked is)
  where
    by : (new : Option Carousel) → IsRightReply ⊤ g (Some (carousel_from first))
        (Ok (asks.Command (small_put content))) (refusal_line why.NameTaken) new → ⊥
    by None (e, cause) =
        differ (refusal_line why.NameTaken) (refusal_line why.DeviceFault) refl e
    by (Some c) (inl (d, is, e)) =
        not-so (done_line d) (refusal_line why.NameTaken) (sym e) refl refl
    by (Some c) (inr (inl (r, is, e, same))) = taken_by (nat_le g.objects 0) r _ is e
    by (Some c) (inr (inr (made, is, e, same, lacks))) =
        differ (refusal_line why.NameTaken) (refusal_line why.NoRoom) refl e

-- nor does a halted server do it
done_halted : (g : Geometry) (content : ContentNumbers) (done : Done) (new : Option Carousel)
    → IsRightReply ⊤ g None (Ok (asks.Command (small_put content))) (done_line done) new → ⊥
done_halted g content done new is =
    not-so (done_line done) (refusal_line why.Halted) is.0 refl refl

-- and a list is refused by no server that is not halted
refused_list : (g : Geometry) (c : Carousel) (r : Refusal) (new : Option Carousel)
    → IsRightReply ⊤ g (Some c) (Ok asks.List) (refusal_line r) new → ⊥
refused_list g c r new (same, IsShown.listed numbers objects is endless e) =
    let begins : false ≡ true = ap (λ t. bytes_eq (take 1 t) (codes "c")) e in cc
refused_list g c r new (same, IsShown.packets shown true asked why_so e) = asked
refused_list g c r new (same, IsShown.packets shown false asked why_so e) = asked

-- nor is it answered, in a session, that there is no memory for it
list_needs_none : (g : Geometry) (c : Carousel) (line : List ℕ) → line_of line ≡ Ok asks.List
    → AreRightReplies ⊤ g (Some c) (record { line = line; text = refusal_line why.OutOfMemory } ∷
    [])
    → ⊥
list_needs_none g c line asked (inl (needs, memory, rest)) = subst NeedsMemory asked needs
list_needs_none g c line asked (inr (new, is, rest)) =
    refused_list g c why.OutOfMemory new
    (subst (λ r. IsRightReply ⊤ g (Some c) r (refusal_line why.OutOfMemory) new) asked is)
