-- What holds since a file was opened or made is told of the disk that is handed out.
use Rattle.std.proofs.Common.{◌≡◌, ◌∙◌, ℕ, Bool, true, false, List, [], ◌∷◌, ◌++◌, ap}
use Rattle.std.proofs.Common.{append-nil, append_assoc, drop, length, inl, inr, subst, sym}
use Rattle.std.proofs.Common.{◌⊎◌, Err, Ok, OnErr, OnOk, Result}
use Rattle.std.proofs.Math.Seq.{take-append_seam}
use Rattle.std.proofs.lemmas.List.{take-append-drop}
use Rattle.disk_store.specs.Calls.{AreRight, Call, after_call, content_after, no_content}
use Rattle.disk_store.specs.Content.{replayed_state}
use Rattle.disk_model.specs.Disk.{IsNew, KeepsLength, State}
use Rattle.disk_store.specs.File.{calls_on, file_state}
use Rattle.disk_store.specs.declared.file.start.Start.{Ghosts}
use Rattle.disk_store.specs.declared.file.FileDiskFrom.{FileDiskFrom}
use Rattle.disk_store.specs.Beginning.{BeginWith, HasFirstCalls, IsFirst, SinceMade, SinceOpened}
use Rattle.disk_store.specs.Beginning.{first_calls, first_state, state_after}
use Rattle.disk_store.specs.Second.{second_calls, second_state}
use Rattle.disk_store.specs.declared.call_count.CallCount.{CallCount}
use Rattle.disk_store.specs.declared.file.SecondDisk.{SecondDisk}
use Rattle.disk_store.specs.declared.file.system.HeldFile.{HeldFile}

module _ {S F : Type 0} {start : Ghosts S F} where
  module _ (is_new : Bool) (first disk : FileDiskFrom S F start) (was : IsFirst is_new first)
      (begins : BeginWith (first_calls is_new (file_state disk).len) (calls_on disk))
      (keeps : KeepsLength (file_state first) (file_state disk)) where
    -- the file's disk after these calls, by its counts
    abbrev counted : List Call → ℕ → ℕ → State
    counted calls failures count = replayed_state (after_call start.bytes) no_content calls
        (content_after start.bytes calls) (AreRight start.bytes calls no_content) failures count

    pub since_first : (P : State → Type 0) → P (file_state first) → P (first_state is_new disk)
    since_first P p =
        subst (λ n. P (state_after start.bytes (first_calls is_new n))) (sym keeps.len)
        (subst (λ c. P (counted c 0 0)) was.order
        (subst (λ n. P (counted (calls_on first) 0 n)) was.new.calls
        (subst (λ n. P (counted (calls_on first) n (file_state first).calls)) was.new.failures p)))

    pub has_begun : HasFirstCalls is_new disk
    has_begun = record {
      order = begins;
      new = since_first (λ s. IsNew s.bytes s) was.new;
      first_bytes = λ there len. since_first (λ s. s.bytes ≡ start.bytes)
          (was.first_bytes there (sym keeps.len ∙ len));
    }

  module _ (first disk : FileDiskFrom S F start) (P : State → State → Type 0) where
    -- what holds since a file was opened is told of the disk that is handed out
    pub since_opened : IsFirst false first
        → BeginWith (first_calls false (file_state disk).len) (calls_on disk)
        → KeepsLength (file_state first) (file_state disk)
        → P (file_state first) (file_state disk) → SinceOpened P disk
    since_opened was begins keeps p = record {
      begun = has_begun false first disk was begins keeps;
      since = since_first false first disk was begins keeps (λ s. P s (file_state disk)) p;
    }

    -- what holds since a file was made is told of the disk that is handed out
    pub since_made : (len : ℕ) → IsFirst true first → (file_state first).len ≡ len
        → BeginWith (first_calls true (file_state disk).len) (calls_on disk)
        → KeepsLength (file_state first) (file_state disk)
        → P (file_state first) (file_state disk) → SinceMade len P disk
    since_made len was is begins keeps p = record {
      begun = has_begun true first disk was begins keeps;
      len_is = keeps.len ∙ is;
      since = since_first true first disk was begins keeps (λ s. P s (file_state disk)) p;
    }

-- the first calls stay first
pub BeginWith-more : (first calls more : List Call) → BeginWith first calls
    → BeginWith first (calls ++ more)
BeginWith-more first calls more begins =
    let later = drop (length first) calls in
    let whole : calls ≡ first ++ later =
    sym (take-append-drop (length first) calls) ∙ ap (λ l. l ++ later) begins in
    subst (BeginWith first) (sym (ap (λ l. l ++ more) whole ∙ append_assoc first later more))
    (take-append_seam first (later ++ more))

-- one call more, with its answer, or none
pub one_or_failed : {T E : Type 0} (Never : Type 0) (r : Result T E) (old new : List Call)
    (call failed : Call)
    → OnOk r (new ≡ old ++ call ∷ [])
    → OnErr r ((new ≡ old ++ failed ∷ []) ⊎ (new ≡ old) × Never)
    → (more : List Call) × (new ≡ old ++ more)
one_or_failed Never (Ok x) old new call failed noted none = (call ∷ [], noted)
one_or_failed Never (Err e) old new call failed noted none = elim none [
  | inl is ↦ (failed ∷ [], is)
  | inr is ↦ ([], is.0 ∙ sym (append-nil old))
]

-- whatever is called on it, its first calls stay
pub begins_after : {S F : Type 0} {start : Ghosts S F} (is_new : Bool) (old new : FileDiskFrom S F start)
    → BeginWith (first_calls is_new (file_state old).len) (calls_on old)
    → (file_state new).len ≡ (file_state old).len
    → (more : List Call) × (calls_on new ≡ calls_on old ++ more)
    → BeginWith (first_calls is_new (file_state new).len) (calls_on new)
begins_after is_new old new begins len goes =
    subst (λ n. BeginWith (first_calls is_new n) (calls_on new)) (sym len)
    (subst (BeginWith (first_calls is_new (file_state old).len)) (sym goes.1)
    (BeginWith-more (first_calls is_new (file_state old).len) (calls_on old) goes.0 begins))

-- what holds of a file's disk is told of the second disk that it ends as
module _ {S F : Type 0} {start : Ghosts S F} {T : Type 0} {other : Ghosts T F} (disk : FileDiskFrom T F other)
    (second : SecondDisk S F start) (bytes : other.bytes ≡ start.others)
    (file : second.file ≡ disk.file) (failures : second.failures ≡ disk.failures)
    (count : second.calls ≡ disk.calls) where
  abbrev state_with : List ℕ → HeldFile F → ℕ → CallCount → State
  state_with bytes file failures count =
      replayed_state (after_call bytes) no_content file.history.calls
      (content_after bytes file.history.calls) (AreRight bytes file.history.calls no_content)
      failures count.number

  pub second_of : (P : List ℕ → List Call → State → Type 0)
      → P other.bytes (calls_on disk) (file_state disk)
      → P start.others (second_calls second) (second_state second)
  second_of P p =
      subst (λ (b : List ℕ). P b (second_calls second)
      (state_with b second.file second.failures second.calls)) bytes
      (subst (λ (c : CallCount). P other.bytes (second_calls second)
      (state_with other.bytes second.file second.failures c)) (sym count)
      (subst (λ (n : ℕ). P other.bytes (second_calls second)
      (state_with other.bytes second.file n disk.calls)) (sym failures)
      (subst (λ (f : HeldFile F). P other.bytes f.history.calls
      (state_with other.bytes f disk.failures disk.calls)) (sym file) p)))
