-- Reads of what is open, one after the other.
use Rattle.std.proofs.Common.{◌≡◌, ◌∙◌, ℕ, Bool, true, List, [], ◌∷◌, ◌++◌, Ok, Err, Result, ap}
use Rattle.std.proofs.Common.{append_assoc, append-nil, length, refl, sym}
use Rattle.std.specs.Prelude.{IfErr, IfOk}
use Rattle.mot_devices.specs.Inner.{IsFailed, IsFirst, IsMore, IsRefusedRead, IsUnreadFor}
use Rattle.mot_devices.specs.Looking.{WasRead, last_read}
use Rattle.mot_devices.specs.Looking.IsUnread.{failed}
use Rattle.mot_devices.specs.declared.reading.NotRead.{NotRead}
use Rattle.mot_devices.specs.declared.reading.NotRead.TheVariants.{NoMemory, Refused}
use Rattle.mot_files.specs.Call.{Call, closed, failed_read, opened, read_of}
use Rattle.mot_files.specs.Reading.{joined, reads}
use Rattle.mot_files.specs.declared.system.Handle.{Handle}
use Rattle.mot_files.specs.declared.system.How.{How}

none_of : (chunk : List ℕ) → length chunk ≡ 0 → chunk ≡ []
none_of [] e = refl
none_of (x ∷ xs) e = cc

reads_one_more : (h : Handle) (chunks : List (List ℕ)) (chunk : List ℕ)
    → reads h (chunks ++ chunk ∷ []) ≡ reads h chunks ++ read_of h chunk ∷ []
reads_one_more h [] chunk = refl
reads_one_more h (first ∷ rest) chunk = ap (λ l. read_of h first ∷ l) (reads_one_more h rest chunk)

joined_one_more : (chunks : List (List ℕ)) (chunk : List ℕ)
    → joined (chunks ++ chunk ∷ []) ≡ joined chunks ++ chunk
joined_one_more [] chunk = append-nil chunk
joined_one_more (first ∷ rest) chunk =
    ap (λ l. first ++ l) (joined_one_more rest chunk) ∙ sym (append_assoc first (joined rest) chunk)

module _ (h : Handle) (chunks : List (List ℕ)) (count : ℕ) (before after : List ℕ)
    (old mid new : List Call) (bytes : before ≡ joined chunks) (here : mid ≡ old ++ reads h chunks)
    (more : IsMore h count before after mid new) where
  pub ends : (most : ℕ) → count ≡ 0 → IsFirst h most true after old new
  ends most zero =
      let none = none_of more.chunk (more.size ∙ zero) in record {
        chunks = chunks;
        given = more.added ∙ ap (λ l. before ++ l) none ∙ append-nil before ∙ bytes;
        enough = λ e. cc;
        calls = more.calls ∙ ap (λ l. mid ++ read_of h l ∷ []) none
            ∙ ap (λ l. l ++ read_of h [] ∷ []) here;
      }

  pub goes_on : (further : List (List ℕ)) × (after ≡ joined further) × (new ≡ old ++ reads h further)
  goes_on = (
    chunks ++ more.chunk ∷ [],
    more.added ∙ ap (λ l. l ++ more.chunk) bytes ∙ sym (joined_one_more chunks more.chunk),
    more.calls ∙ ap (λ l. l ++ read_of h more.chunk ∷ []) here
        ∙ append_assoc old (reads h chunks) (read_of h more.chunk ∷ [])
        ∙ ap (λ l. old ++ l) (sym (reads_one_more h chunks more.chunk)),
  )

-- what was read of what was opened, once it was closed
pub closes : (path : List ℕ) (way : How) (h : Handle) (most : ℕ) (whole : Bool) (bytes : List ℕ)
    (old opening inner new : List Call) → opening ≡ old ++ opened path way (Ok h) ∷ []
    → IsFirst h most whole bytes opening inner → new ≡ inner ++ closed h ∷ []
    → WasRead path way most whole bytes old new
closes path way h most whole bytes old opening inner new begun first close = record {
  first = [];
  last = closed h ∷ [];
  handle = h;
  chunks = first.chunks;
  given = first.given;
  enough = first.enough;
  calls = close ∙ ap (λ l. l ++ closed h ∷ []) first.calls
      ∙ ap (λ l. ((l ++ reads h first.chunks) ++ last_read whole h) ++ closed h ∷ []) begun
      ∙ ap (λ l. (l ++ last_read whole h) ++ closed h ∷ [])
      (append_assoc old (opened path way (Ok h) ∷ []) (reads h first.chunks))
      ∙ ap (λ l. ((l ++ (opened path way (Ok h) ∷ reads h first.chunks)) ++ last_read whole h)
      ++ closed h ∷ []) (sym (append-nil old));
}

-- the same of a reading that may have failed
pub closes_ok : {V E : Type 0} (whole : V → Bool) (items : V → List ℕ) (path : List ℕ) (way : How)
    (h : Handle) (most : ℕ) (old opening inner new : List Call)
    → opening ≡ old ++ opened path way (Ok h) ∷ [] → new ≡ inner ++ closed h ∷ [] → (r : Result V E)
    → IfOk r (λ v. IsFirst h most (whole v) (items v) opening inner)
    → IfOk r (λ v. WasRead path way most (whole v) (items v) old new)
closes_ok whole items path way h most old opening inner new begun close (Ok v) first =
    closes path way h most (whole v) (items v) old opening inner new begun first close
closes_ok whole items path way h most old opening inner new begun close (Err e) first = tt

-- a read that was refused, behind those that gave bytes
pub fails : (h : Handle) (chunks : List (List ℕ)) (why : NotRead) (old mid new : List Call)
    → mid ≡ old ++ reads h chunks → IsRefusedRead h why mid new → IsFailed h why old new
fails h chunks (Refused fault) old mid new here refused =
    (chunks, refused ∙ ap (λ l. l ++ failed_read h fault ∷ []) here)
fails h chunks NoMemory old mid new here refused = tt

-- what was not read of what was opened, once it was closed
unread : (path : List ℕ) (way : How) (h : Handle) (why : NotRead)
    (old opening inner new : List Call) → opening ≡ old ++ opened path way (Ok h) ∷ [] → new ≡ inner ++ closed h ∷ []
    → IsFailed h why opening inner → IsUnreadFor path way why old new
unread path way h (Refused fault) old opening inner new begun close (chunks, calls) =
    failed fault h chunks (close
    ∙ ap (λ l. l ++ closed h ∷ []) (calls
    ∙ ap (λ l. (l ++ reads h chunks) ++ failed_read h fault ∷ []) begun)
    ∙ append_assoc _ (failed_read h fault ∷ []) (closed h ∷ [])
    ∙ ap (λ l. l ++ failed_read h fault ∷ closed h ∷ [])
    (append_assoc old (opened path way (Ok h) ∷ []) (reads h chunks)))
unread path way h NoMemory old opening inner new begun close is = tt

pub unread_err : {V : Type 0} (path : List ℕ) (way : How) (h : Handle)
    (old opening inner new : List Call) → opening ≡ old ++ opened path way (Ok h) ∷ []
    → new ≡ inner ++ closed h ∷ [] → (r : Result V NotRead)
    → IfErr r (λ why. IsFailed h why opening inner)
    → IfErr r (λ why. IsUnreadFor path way why old new)
unread_err path way h old opening inner new begun close (Ok v) is = tt
unread_err path way h old opening inner new begun close (Err why) is =
    unread path way h why old opening inner new begun close is
