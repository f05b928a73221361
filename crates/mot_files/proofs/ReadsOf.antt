-- Reads of a handle, one after the other.
use Rattle.std.proofs.Common.{ℕ, List, [], ◌∷◌, ◌++◌, ◌+◌, ◌≡◌, ◌≤◌, ◌<◌, length, take, refl, sym, ◌∙◌, ap, arith}
use Rattle.std.proofs.Common.{Ok, append_assoc, append-nil}
use Rattle.std.proofs.Math.Seq.{take-append-add}
use lib.Seq.{length-take-le, take-take}
use Rattle.std.proofs.lemmas.Slice.{take-put_mid}
use borrow.Rule.Slice.PartMut.{put_mid}
use Rattle.mot_files.specs.Call.{Call, call, read, read_of}
use Rattle.mot_files.specs.declared.system.Event.TheVariants.{Read}
use Rattle.mot_files.specs.Reading.{joined, reads}
use Rattle.mot_files.specs.declared.system.Handle.{Handle}

pub reads_one_more : (h : Handle) (chunks : List (List ℕ)) (chunk : List ℕ)
    → reads h (chunks ++ chunk ∷ []) ≡ reads h chunks ++ read_of h chunk ∷ []
reads_one_more h [] chunk = refl
reads_one_more h (first ∷ rest) chunk = ap (λ l. read_of h first ∷ l) (reads_one_more h rest chunk)

pub joined_one_more : (chunks : List (List ℕ)) (chunk : List ℕ)
    → joined (chunks ++ chunk ∷ []) ≡ joined chunks ++ chunk
joined_one_more [] chunk = append-nil chunk
joined_one_more (first ∷ rest) chunk =
    ap (λ l. first ++ l) (joined_one_more rest chunk) ∙ sym (append_assoc first (joined rest) chunk)

-- what a part of a slice got is a part of it
pub take_more : (at k count : ℕ) (xs ys : List ℕ) → at ≤ length xs → count ≤ length ys
    → take (at + count) (put_mid at k xs ys) ≡ take at xs ++ take count ys
take_more at k count xs ys p q =
    sym (take-take (at + count) (at + length ys) _ (omega arith))
    ∙ ap (take (at + count)) (take-put_mid at k xs ys (at + length ys) refl p)
    ∙ ap (λ n. take (n + count) (take at xs ++ ys)) (sym (length-take-le at xs p))
    ∙ take-append-add (take at xs) ys count

pub one_more : (h : Handle) (old mid new : List Call) (chunks : List (List ℕ)) (chunk : List ℕ)
    → mid ≡ old ++ reads h chunks → new ≡ mid ++ read_of h chunk ∷ []
    → new ≡ old ++ reads h (chunks ++ chunk ∷ [])
one_more h old mid new chunks chunk before here =
    here ∙ ap (λ l. l ++ read_of h chunk ∷ []) before
    ∙ append_assoc old (reads h chunks) (read_of h chunk ∷ [])
    ∙ ap (λ l. old ++ l) (sym (reads_one_more h chunks chunk))

pub shorter : (chunks : List (List ℕ)) (room : List ℕ) (len at : ℕ) → length room ≡ len
    → at < length room → take at room ≡ joined chunks → length (joined chunks) < len
shorter chunks room len at same few bytes =
    let size : at ≡ length (joined chunks) =
    sym (length-take-le at room (omega arith)) ∙ ap length bytes in
    omega arith

-- a read that gave so many bytes
pub given_is : (h : Handle) (count : ℕ) (room : List ℕ) (old new : List Call)
    → count ≤ length room → new ≡ old ++ read h room (Ok count) ∷ []
    → new ≡ old ++ read_of h (take count room) ∷ []
given_is h count room old new fits here =
    here ∙ ap (λ n. old ++ call (Read h (Ok n)) (take count room) [] ∷ [])
    (sym (length-take-le count room fits))
