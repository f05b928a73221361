-- What the lines of an input come to.
use Rattle.std.proofs.Common.{◌≡◌, ◌∙◌, ℕ, List, [], ◌∷◌, ◌++◌, Option, None, refl, sym, ap}
use Rattle.std.proofs.Common.{append_assoc, append-nil}
use Rattle.disk_model.specs.Disk.{State, IsHonestDisk}
use Rattle.disk_model.proofs.Laws.{unchanged_none}
use Rattle.mot_feed_lines.specs.Answering.{AreAskedBy, IsAskedBy}
use Rattle.mot_feed_lines.specs.Inner.{AnswersMore, HasAnswered}
use Rattle.mot_lines.specs.Line.{line_of}
use Rattle.mot_lines.specs.Lines.{rest_of, whole_lines}
use Rattle.mot_lines.proofs.Laws.{whole_lines-end, whole_lines-front}
use Rattle.mot_numbers.specs.declared.refusal.Refusal.{Refusal}
use Rattle.mot_objects.specs.declared.command.Command.{Command}
use Rattle.mot_playout.specs.Runs.{ServerView}
use Rattle.mot_session.specs.Session.{command_in}
use Rattle.mot_update.proofs.Laws.{has_read, join}

-- ---- bytes

-- a line and its end, taken from what is left
pub line_taken : (front line rest left chunk : List ℕ) → front ++ left ≡ chunk
    → line ++ 10 ∷ rest ≡ left → ((front ++ line) ++ 10 ∷ []) ++ rest ≡ chunk
line_taken front line rest left chunk e f =
    append_assoc (front ++ line) (10 ∷ []) rest ∙ append_assoc front line (10 ∷ rest)
    ∙ ap (λ l. front ++ l) f ∙ e

-- the input, a front of the chunk, and a line
pub joined : (input front line : List ℕ)
    → ((input ++ front) ++ line) ++ 10 ∷ [] ≡ input ++ ((front ++ line) ++ 10 ∷ [])
joined input front line =
    append_assoc (input ++ front) line (10 ∷ []) ∙ append_assoc input front (line ++ 10 ∷ [])
    ∙ ap (λ l. input ++ l) (sym (append_assoc front line (10 ∷ [])))

-- the lines of an input whose next line ends
pub lines_at_end : (xs rest input : List ℕ) → (xs ++ 10 ∷ []) ++ rest ≡ input
    → (extra : List (List ℕ)) × (whole_lines input ≡ whole_lines xs ++ rest_of xs ∷ extra)
lines_at_end xs rest input e =
    let f = whole_lines-front (xs ++ 10 ∷ []) rest in (
      f.0,
      ap whole_lines (sym e) ∙ f.1 ∙ ap (λ l. l ++ f.0) (whole_lines-end xs)
          ∙ append_assoc (whole_lines xs) (rest_of xs ∷ []) f.0,
    )

-- ---- lines

lines-push : (before lines extra : List (List ℕ)) (line : List ℕ)
    → (before ++ lines) ++ line ∷ extra ≡ (before ++ (lines ++ line ∷ [])) ++ extra
lines-push before lines extra line =
    sym (append_assoc (before ++ lines) (line ∷ []) extra)
    ∙ ap (λ l. l ++ extra) (append_assoc before lines (line ∷ []))

-- the commands of lines, and of one more
asked-push : (lines : List (List ℕ)) (line : List ℕ) (commands more : List Command)
    → AreAskedBy lines commands → IsAskedBy line more
    → AreAskedBy (lines ++ line ∷ []) (commands ++ more)
asked-push [] line commands more none one = (
  more,
  [],
  one,
  refl,
  ap (λ l. l ++ more) none ∙ sym (append-nil more),
)
asked-push (first ∷ lines) line commands more are one = (
  are.0,
  are.1 ++ more,
  are.2,
  asked-push lines line are.1 more are.3 one,
  ap (λ l. l ++ more) are.4 ∙ append_assoc are.0 are.1 more,
)

module _ {D : Type 0} (state : D → State) where
  -- no line has ended
  pub more_none : (server : ServerView D) (before after : List ℕ)
      → ((state server.disk).IsHonest → IsHonestDisk (state server.disk))
      → whole_lines after ≡ whole_lines before
      → AnswersMore state server server before after None
  more_none server before after sound same = record {
    lines = [];
    ended = record {
      unanswered = [];
      ended = same ∙ sym (append-nil (whole_lines before))
          ∙ sym (append-nil (whole_lines before ++ []));
      whole = λ e. refl;
    };
    commands = [];
    are = refl;
    run = λ s holds honest. (
      [],
      (has_read server server (state server.disk) (state server.disk) s None (sound honest) refl
          refl honest (unchanged_none (state server.disk)) holds).0,
    );
  }

  -- nor has any behind these
  pub more_rest : (old new : ServerView D) (before after rest : List ℕ)
      → whole_lines rest ≡ whole_lines after
      → AnswersMore state old new before after None
      → AnswersMore state old new before rest None
  more_rest old new before after rest same more = record {
    lines = more.lines;
    ended = record {
      unanswered = more.ended.unanswered;
      ended = same ∙ more.ended.ended;
      whole = more.ended.whole;
    };
    commands = more.commands;
    are = more.are;
    run = more.run;
  }

  -- one line more
  pub more_one : (old mid new : ServerView D) (before until after line : List ℕ)
      (extra : List (List ℕ)) (fault : Option Refusal)
      → ((state new.disk).IsHonest → (state mid.disk).IsHonest)
      → whole_lines after ≡ whole_lines until ++ line ∷ extra → (fault ≡ None → extra ≡ [])
      → AnswersMore state old mid before until None
      → HasAnswered state mid new (command_in (line_of line)) fault
      → AnswersMore state old new before after fault
  more_one old mid new before until after line extra fault was same none more one =
      let lines : List (List ℕ) = whole_lines before ++ more.lines in
      let so_far : whole_lines until ≡ lines =
      more.ended.ended ∙ ap (λ l. lines ++ l) (more.ended.whole refl) ∙ append-nil lines in
      record {
        lines = more.lines ++ line ∷ [];
        ended = record {
          unanswered = extra;
          ended = same ∙ ap (λ l. l ++ line ∷ extra) so_far
              ∙ lines-push (whole_lines before) more.lines extra line;
          whole = none;
        };
        commands = more.commands ++ one.commands;
        are = asked-push more.lines line more.commands one.commands more.are one.are;
        run = λ s holds honest.
            let first = more.run s holds (was honest) in
            let second = one.run first.1.leaves.last (first.1.leaves.going refl) honest in (
              first.0 ++ second.0,
              join old mid new (state old.disk) (state mid.disk) (state new.disk) s
                  more.commands one.commands first.0 second.0 fault first.1 second.1,
            );
      }
