-- Reads of a handle, one after the other.
use Rattle.std.proofs.Common.{ℕ, List, [], ◌∷◌, ◌++◌, ◌+◌, ◌≡◌, ◌≤◌, ◌<◌, length, take, refl, sym}
use Rattle.std.proofs.Common.{◌∙◌, ap, append_assoc, append-nil, arith, subst}
use Rattle.std.proofs.Math.Seq.{take-append-add}
use lib.Seq.{length-take-le, take-append-le, take-take}
use Rattle.std.proofs.lemmas.Slice.{take-put_mid}
use borrow.Rule.Slice.PartMut.{put_mid}
use Rattle.mot_endpoints.specs.Inner.{Extends}
use Rattle.mot_endpoints.specs.Texts.{IsReadToEnd}
use Rattle.mot_files.proofs.Laws.{step}
use Rattle.mot_files.specs.Call.{Call, read_of}
use Rattle.mot_files.specs.Reading.{joined, reads}
use Rattle.mot_files.specs.declared.system.Handle.{Handle}

pub reads_one_more : (h : Handle) (chunks : List (List ℕ)) (chunk : List ℕ)
    → reads h (chunks ++ chunk ∷ []) ≡ reads h chunks ++ read_of h chunk ∷ []
reads_one_more h [] chunk = refl
reads_one_more h (first ∷ rest) chunk = ap (λ l. read_of h first ∷ l) (reads_one_more h rest chunk)

pub joined_one_more : (chunks : List (List ℕ)) (chunk : List ℕ)
    → joined (chunks ++ chunk ∷ []) ≡ joined chunks ++ chunk
joined_one_more [] chunk = append-nil chunk
joined_one_more (first ∷ rest) chunk =
    ap (λ l. first ++ l) (joined_one_more rest chunk) ∙ sym (append_assoc first (joined rest) chunk)

-- what a part of a slice got is a part of it
pub take_more : (at k count : ℕ) (xs ys : List ℕ) → at ≤ length xs → count ≤ length ys
    → take (at + count) (put_mid at k xs ys) ≡ take at xs ++ take count ys
take_more at k count xs ys p q =
    sym (take-take (at + count) (at + length ys) _ (omega arith))
    ∙ ap (take (at + count)) (take-put_mid at k xs ys (at + length ys) refl p)
    ∙ ap (λ n. take (n + count) (take at xs ++ ys)) (sym (length-take-le at xs p))
    ∙ take-append-add (take at xs) ys count

pub one_more : (h : Handle) (old mid new : List Call) (chunks : List (List ℕ)) (chunk : List ℕ)
    → mid ≡ old ++ reads h chunks → new ≡ mid ++ read_of h chunk ∷ []
    → new ≡ old ++ reads h (chunks ++ chunk ∷ [])
one_more h old mid new chunks chunk before here =
    step _ here before ∙ append_assoc old (reads h chunks) (read_of h chunk ∷ [])
    ∙ ap (λ l. old ++ l) (sym (reads_one_more h chunks chunk))

pub none_of : (chunk : List ℕ) → length chunk ≡ 0 → chunk ≡ []
none_of [] e = refl
none_of (x ∷ xs) e = cc

pub ends : (h : Handle) (old mid new : List Call) (chunks : List (List ℕ)) (chunk text : List ℕ)
    → text ≡ joined chunks → mid ≡ old ++ reads h chunks → length chunk ≡ 0
    → new ≡ mid ++ read_of h chunk ∷ [] → IsReadToEnd h text old new
ends h old mid new chunks chunk text bytes before none here = record {
  chunks = chunks;
  given = bytes;
  calls = rw (none_of chunk none) at (step _ here before);
}

-- a read of nothing leaves what was read before it
pub still : (at count : ℕ) (before after chunk text : List ℕ) → count ≡ 0 → length chunk ≡ count
    → take (at + count) after ≡ take at before ++ chunk → take at before ≡ text
    → take at after ≡ text
still at count before after chunk text none size got had =
    let same : at ≡ at + count = omega arith in
    ap (λ n. take n after) same ∙ got
    ∙ ap (λ l. take at before ++ l) (none_of chunk (size ∙ none))
    ∙ append-nil (take at before) ∙ had

-- what is kept of a room that was filled so far
pub kept_of : (h : Handle) (len total : ℕ) (room rest text : List ℕ) (old new : List Call)
    → text ≡ take len (take total (room ++ rest)) → len ≤ 65536 → length room ≡ 65537
    → total ≡ 65537 → (len < length room → IsReadToEnd h (take len room) old new)
    → IsReadToEnd h text old new
kept_of h len total room rest text old new is few size whole reads =
    subst (λ bytes. IsReadToEnd h bytes old new)
    (sym (is ∙ take-take len total (room ++ rest) (omega arith)
    ∙ take-append-le len room rest (omega arith)))
    (reads (omega arith))

-- more calls after one
pub further : (one : Call) (old mid new : List Call) → mid ≡ old ++ one ∷ [] → Extends mid new
    → Extends old new
further one old mid new first more =
    (one ∷ more.0, more.1 ∙ ap (λ l. l ++ more.0) first ∙ append_assoc old (one ∷ []) more.0)
