-- Bytes of a chunk that were taken, and the lines served that ended in them.
use Rattle.std.proofs.Common.{◌≡◌, ℕ, ◌+◌, List, [], ◌∷◌, ◌++◌, Option, sym, ap, subst, ◌∙◌}
use Rattle.std.proofs.Common.{append_assoc, append-nil}
use Rattle.disk_model.specs.Disk.{State}
use Rattle.mot_lines.specs.Lines.{bytes_in_hand, HasNoLineEnd, whole_lines, rest_of}
use Rattle.mot_lines.specs.Line.{line_of}
use Rattle.mot_lines.proofs.Laws.{whole_lines-end, whole_lines-front, whole_lines-within}
use Rattle.mot_playout.specs.Runs.{ServerView}
use Rattle.mot_session.specs.Inner.Writes.{InHand}
use Rattle.mot_session.specs.LineByLine.{BreaksOff, ServesEach, ServesOne, ServesSome}
use Rattle.mot_session.proofs.Each.{each-more, some-here}
use Rattle.mot_session.proofs.Kept.{BreaksOff-of_line, ServesOne-of_line}
use Rattle.mot_session.proofs.Runs.{InHand-end, InHand-within}

module _ {D : Type 0} (state : D → State) (first : ServerView D) (hand : List ℕ) (lines : ℕ)
    (written : Option (List ℕ)) where
  -- whatever was served of an input before, these bytes more of it were taken
  pub record Taken (front : List ℕ) (now : ServerView D) (held : List ℕ) (count : ℕ)
      (known : Option (List ℕ)) : Type 0 where
    pub in_hand : (input : List ℕ) → InHand input hand lines → InHand (input ++ front) held count
    pub each : (begun : ServerView D) (old : Option (List ℕ)) (input : List ℕ)
        → InHand input hand lines → ServesEach state begun (whole_lines input) first old written
        → ServesEach state begun (whole_lines (input ++ front)) now old known

  -- none were taken yet
  pub taken_none : Taken [] first hand lines written
  taken_none = record {
    in_hand = λ input is. rw append-nil is;
    each = λ begun old input is each. rw append-nil each;
  }

module _ {D : Type 0} {state : D → State} {first : ServerView D} {hand : List ℕ} {lines : ℕ}
    {written : Option (List ℕ)} {front : List ℕ} {now : ServerView D} {held : List ℕ} {count : ℕ}
    {known : Option (List ℕ)}
    (so_far : Taken state first hand lines written front now held count known) where
  -- bytes that end no line are taken, once they are in hand
  pub taken_within : {more next : List ℕ} → HasNoLineEnd more
      → ((line : List ℕ) → held ≡ bytes_in_hand line → next ≡ bytes_in_hand (line ++ more))
      → Taken state first hand lines written (front ++ more) now next count known
  taken_within {more} {next} none adds =
      let same = λ (input : List ℕ). sym (whole_lines-within (input ++ front) more none)
      ∙ ap whole_lines (append_assoc input front more) in
      record {
        in_hand = λ input is.
            let h = so_far.in_hand input is in
            subst (λ l. InHand l next count) (append_assoc input front more)
            (InHand-within (input ++ front) held count h more next none
            (adds (rest_of (input ++ front)) h.rest));
        each = λ begun old input is each.
            subst (λ l. ServesEach state begun l now old known) (same input)
            (so_far.each begun old input is each);
      }

  -- these bytes ask for what is in hand
  module _ {bytes : List ℕ} {new : ServerView D} {told : Option (List ℕ)}
      (asks : (line : List ℕ) → held ≡ bytes_in_hand line → line_of bytes ≡ line_of line) where
    -- a line's end is taken, once the line is served and nothing is in hand
    pub taken_line : ServesOne state now bytes new known told → {next : List ℕ}
        → next ≡ bytes_in_hand []
        → Taken state first hand lines written (front ++ 10 ∷ []) new next (count + 1) told
    taken_line one {next} empty =
        let same = λ (input : List ℕ). sym (whole_lines-end (input ++ front))
        ∙ ap whole_lines (append_assoc input front (10 ∷ [])) in
        let whole = λ (input : List ℕ) (is : InHand input hand lines).
        ServesOne-of_line bytes (rest_of (input ++ front))
        (asks (rest_of (input ++ front)) (so_far.in_hand input is).rest) state now new known told
        one in
        record {
          in_hand = λ input is.
              subst (λ l. InHand l next (count + 1)) (append_assoc input front (10 ∷ []))
              (InHand-end (input ++ front) held count (so_far.in_hand input is) next empty);
          each = λ begun old input is each.
              subst (λ l. ServesEach state begun l new old told) (same input)
              (each-more state begun now new (whole_lines (input ++ front))
              (rest_of (input ++ front)) old known told (so_far.each begun old input is each)
              (whole input is));
        }

    -- the line ended in the chunk, and the reply to it was broken off
    module _ {chunk : List ℕ} (parts : (rest : List ℕ) × (front ++ 10 ∷ rest ≡ chunk))
        (one : BreaksOff state now bytes new known told) where
      cut : (input : List ℕ) → InHand input hand lines
          → BreaksOff state now (rest_of (input ++ front)) new known told
      cut input is = BreaksOff-of_line bytes (rest_of (input ++ front))
          (asks (rest_of (input ++ front)) (so_far.in_hand input is).rest) state now new known
          told one

      all_lines : (input : List ℕ) → (others : List (List ℕ))
          × (whole_lines (input ++ chunk)
          ≡ whole_lines (input ++ front) ++ rest_of (input ++ front) ∷ others)
      all_lines input =
          let xs : List ℕ = input ++ front in
          let more = whole_lines-front (xs ++ 10 ∷ []) parts.0 in
          let all : (xs ++ 10 ∷ []) ++ parts.0 ≡ input ++ chunk =
          append_assoc xs (10 ∷ []) parts.0 ∙ append_assoc input front (10 ∷ parts.0)
          ∙ ap (λ l. input ++ l) parts.1 in (
            more.0,
            ap whole_lines (sym all) ∙ more.1 ∙ ap (λ l. l ++ more.0) (whole_lines-end xs)
                ∙ append_assoc (whole_lines xs) (rest_of xs ∷ []) more.0,
          )

      -- the lines before it were served, and the reply to it was broken off
      pub some_there : (begun : ServerView D) (old : Option (List ℕ)) (input : List ℕ)
          → InHand input hand lines
          → ServesEach state begun (whole_lines input) first old written
          → ServesSome state begun (whole_lines (input ++ chunk)) count new old told
      some_there begun old input is each =
          let split = all_lines input in
          some-here state begun now new (whole_lines (input ++ front)) (rest_of (input ++ front))
          split.0 (whole_lines (input ++ chunk)) count old known told split.1
          (so_far.in_hand input is).counted (so_far.each begun old input is each) (cut input is)
