-- The fields of a line, and the steps by which they are read.
use Rattle.std.proofs.Common.{◌≡◌, ℕ, true, false, List, [], ◌∷◌, Option, Some, None, Result, Ok}
use Rattle.std.proofs.Common.{Err, refl, ap, ◌∙◌, inl, inr, arith}
use Rattle.std.specs.Prelude.{codes, bytes_eq, is_ok, IsOk, IfOk, IfErr, ◌↔◌}
use Rattle.std.proofs.lemmas.Bool.{false_from_ne_true}
use Rattle.hex.specs.Hex.{decode_of}
use Rattle.mot_objects.specs.declared.command.Item.{Item}
use Rattle.mot_lines.specs.Fields.{name_in, content_in, mime_in, body_in, number_of_word}
use Rattle.mot_lines.specs.Line.{description_of}
use Rattle.mot_numbers.specs.Refusal.{◌>>=◌}
use Rattle.mot_lines.specs.Inner.{OrOutOfMemory}
use Rattle.mot_numbers.specs.declared.refusal.Refusal.{Refusal}
use Rattle.mot_numbers.specs.declared.refusal.Refusal.TheVariants.{OutOfMemory, BadName, BadMime}
use Rattle.mot_objects.specs.Name.{ContentNumbers, IsName, IsMime, is_mime, is_name}
use Rattle.mot_objects.proofs.Laws.{name_true, name_is, mime_true, mime_is}

-- a refusal ends the reading
pub bound_err : {A B : Type 0} (x : Result A Refusal) (f : A → Result B Refusal) (r : Refusal)
    → OrOutOfMemory {T = A} (Err r) x → OrOutOfMemory {T = B} (Err r) (x >>= f)
bound_err x f r (inl h) = inl (ap (λ y. y >>= f) h)
bound_err x f r (inr h) = inr (let e : r ≡ OutOfMemory = cc in ap (λ q. Err q) e)

-- a field is read, and the reading goes on
pub bound_ok : {A B : Type 0} (x : Result A Refusal) (f : A → Result B Refusal) (v : A)
    (r : Result B Refusal)
    → OrOutOfMemory {T = A} (Ok v) x → OrOutOfMemory r (f v) → OrOutOfMemory r (x >>= f)
bound_ok x f v r (inl h) (inl k) = inl (k ∙ ap (λ y. y >>= f) h)
bound_ok x f v r (inl h) (inr k) = inr k
bound_ok x f v r (inr h) k = absurd (cc)

-- ---- names

-- a text that is taken just where its bytes are a name is what they are read as
pub name_answer : (bytes : List ℕ) (r : Result (List ℕ) Refusal) → (IsOk r ↔ IsName bytes)
    → IfOk r (λ n. n ≡ bytes) → IfErr r (λ e. e ≡ BadName) → r ≡ name_in bytes
unfolding name_in
name_answer bytes (Ok n) v i e =
    rw (name_true 255 bytes (v.0 refl) (v.0 refl).short) (ap (λ x. Ok x) i)
name_answer bytes (Err r) v i e =
    let other : is_name 255 bytes ≡ false = false_from_ne_true (is_name 255 bytes)
    (λ t. let k : is_ok {T = List ℕ} (Err r) ≡ true = v.1 (name_is 255 bytes (omega arith) t) in
    absurd (cc)) in
    rw other (ap (λ x. Err x) e)

-- ---- MIME types

-- the word `-` is read as no MIME type
pub mime_none : (bytes : List ℕ) → bytes_eq bytes (codes "-") ≡ true → mime_in bytes ≡ Ok None
unfolding mime_in
mime_none bytes e = rw e refl

module _ (bytes : List ℕ) (named : bytes_eq bytes (codes "-") ≡ false) (r : Result (List ℕ) Refusal)
    (v : IsOk r ↔ IsMime bytes) where
  -- a word that was taken as a MIME type is read as it
  pub mime_some : (m : List ℕ) → r ≡ Ok m → m ≡ bytes → Ok (Some m) ≡ mime_in bytes
  unfolding mime_in
  mime_some m w i = rw (mime_true bytes (v.0 (ap is_ok w)), named) (ap (λ x. Ok (Some x)) i)

  -- a word that was refused as a MIME type is read as that refusal
  pub mime_refused : (e : Refusal) → r ≡ Err e → e ≡ BadMime → Err e ≡ mime_in bytes
  unfolding mime_in
  mime_refused e w i =
      let other : is_mime bytes ≡ false = false_from_ne_true (is_mime bytes)
      (λ t. let k : is_ok r ≡ true = v.1 (mime_is bytes t) in let n : is_ok r ≡ false =
      ap is_ok w in
      absurd (cc)) in
      rw (other, named) (ap (λ x. Err x) i)

-- ---- the words of a put or a replace

abbrev described : List ℕ → ContentNumbers → Option (List ℕ) → List ℕ → Result Item Refusal
described n c m b = Ok (record { name = n; content = c; mime = m; body = b })

abbrev from_body : List ℕ → List ℕ → ContentNumbers → Option (List ℕ) → Result Item Refusal
from_body hex n c m = body_in (decode_of hex) >>= described n c m

abbrev from_mime : List ℕ → List ℕ → List ℕ → ContentNumbers → Result Item Refusal
from_mime mime hex n c = mime_in mime >>= from_body hex n c

abbrev from_content : List ℕ → List ℕ → List ℕ → List ℕ → List ℕ → Result Item Refusal
from_content kind subtype mime hex n =
    content_in (number_of_word kind) (number_of_word subtype) >>= from_mime mime hex n

module _ (words : List (List ℕ)) (name kind subtype mime hex : List ℕ)
    (five : words ≡ name ∷ kind ∷ subtype ∷ mime ∷ hex ∷ []) where
  steps : description_of words ≡ (name_in name >>= from_content kind subtype mime hex)
  unfolding description_of
  steps = rw five refl

  -- words whose name is refused are refused for it, or for want of memory
  pub describe_name : (r : Refusal) → OrOutOfMemory (Err r) (name_in name)
      → OrOutOfMemory (Err r) (description_of words)
  describe_name r h = rw steps (bound_err (name_in name) (from_content kind subtype mime hex) r h)

  module _ (n : List ℕ) (named : OrOutOfMemory (Ok n) (name_in name)) where
    after_name : (r : Result Item Refusal)
        → OrOutOfMemory r (from_content kind subtype mime hex n)
        → OrOutOfMemory r (description_of words)
    after_name r h = rw steps
        (bound_ok (name_in name) (from_content kind subtype mime hex) n r named h)

    -- words whose content is refused, behind a name, are refused for it
    pub describe_content : (r : Refusal)
        → Err r ≡ content_in (number_of_word kind) (number_of_word subtype)
        → OrOutOfMemory (Err r) (description_of words)
    describe_content r h = after_name (Err r) (bound_err
        (content_in (number_of_word kind) (number_of_word subtype)) (from_mime mime hex n) r
        (inl h))

    module _ (c : ContentNumbers)
        (content : Ok c ≡ content_in (number_of_word kind) (number_of_word subtype)) where
      after_content : (r : Result Item Refusal) → OrOutOfMemory r (from_mime mime hex n c)
          → OrOutOfMemory r (description_of words)
      after_content r h = after_name r (bound_ok
          (content_in (number_of_word kind) (number_of_word subtype)) (from_mime mime hex n) c r
          (inl content) h)

      -- words whose MIME type is refused, behind these, are refused for it
      pub describe_mime : (r : Refusal) → OrOutOfMemory (Err r) (mime_in mime)
          → OrOutOfMemory (Err r) (description_of words)
      describe_mime r h = after_content (Err r) (bound_err (mime_in mime) (from_body hex n c) r h)

      module _ (m : Option (List ℕ)) (typed : OrOutOfMemory (Ok m) (mime_in mime)) where
        after_mime : (r : Result Item Refusal) → OrOutOfMemory r (from_body hex n c m)
            → OrOutOfMemory r (description_of words)
        after_mime r h = after_content r (bound_ok (mime_in mime) (from_body hex n c) m r typed h)

        -- words whose body is refused, behind these, are refused for it
        pub describe_body : (r : Refusal) → OrOutOfMemory (Err r) (body_in (decode_of hex))
            → OrOutOfMemory (Err r) (description_of words)
        describe_body r h = after_mime (Err r)
            (bound_err (body_in (decode_of hex)) (described n c m) r h)

        -- five words of which each was read describe an object
        pub describe_all : (b : List ℕ) → OrOutOfMemory (Ok b) (body_in (decode_of hex))
            → OrOutOfMemory (Ok (record { name = n; content = c; mime = m; body = b }))
            (description_of words)
        describe_all b h = after_mime (described n c m b)
            (bound_ok (body_in (decode_of hex)) (described n c m) b (described n c m b) h
            (inl refl))
