-- What one call more does to a file of the model.
use Rattle.std.proofs.Common.{◌≡◌, ℕ, ◌+◌, ◌-◌, ◌<◌, ◌≤◌, List, [], ◌∷◌, ◌++◌, length}
use Rattle.std.proofs.Common.{take, drop, replicate, true, false}
use Rattle.std.proofs.Common.{slice_range, refl, sym, ◌∙◌, ap, subst, arith, length-append}
use Rattle.std.proofs.lemmas.List.{length-replicate, length-take-le}
use Rattle.std.proofs.Math.Seq.{drop-append_seam, take-append_seam}
use Rattle.std.proofs.lemmas.List.Elements.{All-append, All-take, All-drop, All-replicate}
use Rattle.std.specs.List.{All}
use Rattle.disk_store.specs.Content.{Content, at_start, after_overwrite, after_write, after_touch}
use Rattle.disk_store.specs.Content.{after_sync, replay}
use Rattle.disk_store.specs.Calls.{Call, opening_calls, making_calls, first_bytes, after_call}
use Rattle.disk_store.specs.Calls.{content_after, no_content, IsRight, AreRight}
use Rattle.disk_store.specs.Inner.Noting.{HasOnlyOpened}
use Rattle.disk_store.proofs.Log.{replay_push}
use Rattle.disk_store.proofs.Overwrite.{length-after_overwrite}

abbrev IsByte : ℕ → Type 0
IsByte b = b < 256

module _ (first : List ℕ) where
  right_push : (calls : List Call) (e : Call) (s : Content)
      → AreRight first calls s → IsRight e (replay (after_call first) calls s)
      → AreRight first (calls ++ e ∷ []) s
  right_push [] e s fit right = (right, tt)
  right_push (x ∷ calls) e s fit right =
      (fit.0, right_push calls e (after_call first x s) fit.1 right)

  right_front : (calls : List Call) (e : Call) (s : Content) → AreRight first (calls ++ e ∷ []) s
      → AreRight first calls s
  right_front [] e s fit = tt
  right_front (x ∷ calls) e s fit = (fit.0, right_front calls e (after_call first x s) fit.1)

  right_last : (calls : List Call) (e : Call) (s : Content)
      → AreRight first (calls ++ e ∷ []) s → IsRight e (replay (after_call first) calls s)
  right_last [] e s fit = fit.0
  right_last (x ∷ calls) e s fit = right_last calls e (after_call first x s) fit.1

  -- one call more
  module _ (calls calls' : List Call) (e : Call) (is : calls' ≡ calls ++ e ∷ []) where
    -- the content after one call more is what that call makes of the content before it
    pub content_now : content_after first calls' ≡ after_call first e (content_after first calls)
    content_now = ap (content_after first) is ∙ replay_push (after_call first) calls e no_content

    -- right calls, and one more that is right behind them, are right
    pub goes_on_right : AreRight first calls no_content → IsRight e (content_after first calls)
        → AreRight first calls' no_content
    goes_on_right fit right =
        subst (λ l. AreRight first l no_content) (sym is) (right_push calls e no_content fit right)

    -- where calls are right with one more, they are without it
    pub were_right : AreRight first calls' no_content → AreRight first calls no_content
    were_right fit = right_front calls e no_content
        (subst (λ l. AreRight first l no_content) is fit)

    -- where calls are right, the last one is right behind those before it
    pub was_right : AreRight first calls' no_content → IsRight e (content_after first calls)
    was_right fit = right_last calls e no_content (subst (λ l. AreRight first l no_content) is fit)

-- n bytes, each of them loose or not
pub record IsWhole (n : ℕ) (s : Content) : Type 0 where
  -- the file is so long
  pub len_is : length s.bytes ≡ n
  -- each position is told as loose or not
  pub loose_len : length s.loose ≡ length s.bytes
  -- each position has a byte
  pub are_bytes : All (λ b. b < 256) s.bytes

module _ (n : ℕ) (s : Content) (whole : IsWhole n s) where
  marks_len : (at k : ℕ) → at + k ≤ n
      → length (after_overwrite at (replicate k true) s.loose) ≡ length s.bytes
  marks_len at k fits =
      let marks_fit : at + length (replicate k true) ≤ length s.loose =
      omega (arith, length-replicate k true, whole.len_is, whole.loose_len, fits) in
      length-after_overwrite at (replicate k true) s.loose marks_fit ∙ whole.loose_len

  -- a write of bytes within a file leaves it whole
  pub whole_write : (at : ℕ) (new : List ℕ) → at + length new ≤ n → All (λ b. b < 256) new
      → IsWhole n (after_write at new s)
  whole_write at new fits are_bytes =
      let same = length-after_overwrite at new s.bytes (omega (arith, whole.len_is, fits)) in
      let back = All-drop IsByte (at + length new) s.bytes whole.are_bytes in
      record {
        len_is = same ∙ whole.len_is;
        loose_len = marks_len at (length new) fits ∙ sym same;
        are_bytes = All-append IsByte (take at s.bytes) (new ++ drop (at + length new) s.bytes)
            (All-take IsByte at s.bytes whole.are_bytes)
            (All-append IsByte new (drop (at + length new) s.bytes) are_bytes back);
      }

  -- a range of it that is touched leaves it whole
  pub whole_touch : (at k : ℕ) → at + k ≤ n → IsWhole n (after_touch at k s)
  whole_touch at k fits = record {
    len_is = whole.len_is;
    loose_len = marks_len at k fits;
    are_bytes = whole.are_bytes;
  }

  -- a sync leaves it whole
  pub whole_sync : IsWhole n (after_sync s)
  whole_sync = record {
    len_is = whole.len_is;
    loose_len = length-replicate (length s.loose) false ∙ whole.loose_len;
    are_bytes = whole.are_bytes;
  }

-- what was written is read back
pub slice_after_overwrite : (at : ℕ) (new old : List ℕ) → at + length new ≤ length old
    → slice_range (after_overwrite at new old) at (at + length new) ≡ new
slice_after_overwrite at new old fits =
    let back = drop (at + length new) old in
    let size : length (take at old) ≡ at = length-take-le at old (omega arith) in
    let start : drop at (after_overwrite at new old) ≡ new ++ back =
    ap (λ k. drop k (after_overwrite at new old)) (sym size)
    ∙ drop-append_seam (take at old) (new ++ back) in
    let some : at + length new - at ≡ length new = omega arith in
    ap (λ k. take k (drop at (after_overwrite at new old))) some ∙ ap (take (length new)) start
    ∙ take-append_seam new back

module _ (len : ℕ) (first : List ℕ) where
  pub length-first_bytes : length (first_bytes len first) ≡ len
  length-first_bytes = length-take-le len (first ++ replicate len 0)
      (omega (arith, length-append first (replicate len 0), length-replicate {A = ℕ} len 0))

  are_zeros : All (λ b. b < 256) (replicate len 0)
  are_zeros = All-replicate IsByte len 0 (omega arith)

  pub first_bytes_bytes : All (λ b. b < 256) first → All (λ b. b < 256) (first_bytes len first)
  first_bytes_bytes are_bytes = All-take IsByte len (first ++ replicate len 0)
      (All-append IsByte first (replicate len 0) are_bytes are_zeros)

  begun : (calls first_ones : List Call) (bytes : List ℕ) → calls ≡ first_ones
      → content_after first first_ones ≡ at_start bytes
      → length bytes ≡ len → All (λ b. b < 256) bytes → AreRight first first_ones no_content
      → HasOnlyOpened first len calls
  begun calls first_ones bytes is then size are_bytes right =
      let now : content_after first calls ≡ at_start bytes = ap (content_after first) is ∙ then in
      let now_bytes : (content_after first calls).bytes ≡ bytes = ap (λ s. s.bytes) now in
      record {
        firm = now ∙ ap at_start (sym now_bytes);
        len_is = ap length now_bytes ∙ size;
        are_bytes = subst (All IsByte) (sym now_bytes) are_bytes;
        are_right = subst (λ l. AreRight first l no_content) (sym is) right;
      }

  -- once they are synced, the zeros of a new file are firm
  firm_zeros : content_after first (making_calls len) ≡ at_start (replicate len 0)
  firm_zeros =
      ap (λ n. record {
        bytes = replicate len 0;
        loose = replicate n false;
        synced =
            replicate len 0;
      })
      (length-replicate len true ∙ sym (length-replicate {A = ℕ} len 0))

  module _ (calls : List Call) where
    -- a file that was there
    pub begun_opened : All (λ b. b < 256) first → calls ≡ opening_calls len
        → HasOnlyOpened first len calls
    begun_opened are_bytes is =
        begun calls (opening_calls len) (first_bytes len first) is refl length-first_bytes
        (first_bytes_bytes are_bytes) (tt, (tt, (tt, (tt, tt))))

    opened_bytes : calls ≡ opening_calls len
        → (content_after first calls).bytes ≡ first_bytes len first
    opened_bytes is = ap (λ l. (content_after first l).bytes) is

    opened_len : calls ≡ opening_calls len → length (content_after first calls).bytes ≡ len
    opened_len is = ap length (opened_bytes is) ∙ length-first_bytes

    -- its length is the one that was asked for
    pub opened_order : calls ≡ opening_calls len
        → calls ≡ opening_calls (length (content_after first calls).bytes)
    opened_order is = is ∙ ap opening_calls (sym (opened_len is))

    -- where as many bytes are told, they are its bytes
    pub opened_first : calls ≡ opening_calls len
        → length (content_after first calls).bytes ≡ length first
        → (content_after first calls).bytes ≡ first
    opened_first is same =
        opened_bytes is
        ∙ ap (λ n. take n (first ++ replicate len 0)) (sym (opened_len is) ∙ same)
        ∙ take-append_seam first (replicate len 0)

    -- a file that was made
    pub begun_made : calls ≡ making_calls len → HasOnlyOpened first len calls
    begun_made is =
        begun calls (making_calls len) (replicate len 0) is firm_zeros (length-replicate len 0)
        are_zeros (tt, (tt, (tt, (tt, (tt, tt)))))

    pub made_bytes : calls ≡ making_calls len → (content_after first calls).bytes ≡ replicate len 0
    made_bytes is = ap (λ l. (content_after first l).bytes) is
