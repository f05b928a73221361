use Rattle.std.proofs.Common.{◌≡◌, ◌∙◌, rules, refl, sym, ap, subst, Bool, true, false, length, ◌≤◌}
use Rattle.std.proofs.Common.{[], Some, None, Ok, Err}
use Rattle.std.specs.Prelude.{slice_get, vec_capacity}
use Rattle.std.specs.Global.{Vec}
use Rattle.std.proofs.lemmas.Option.{slice_get_read}
use Rattle.disk_model.proofs.Laws.{keeps_all_on}
use Rattle.mot_numbers.specs.declared.refusal.Refusal.TheVariants.{OutOfMemory}
use Rattle.mot_playout.specs.RunEnds.{RunLeaves, place_behind}
use Rattle.mot_playout.specs.Runs.{accepted_commands, IsAfter, place_in}
use Rattle.mot_playout.proofs.Places.{begins_anew, none_done, stays_there, turns_there}
use Rattle.mot_playout.proofs.Runs.{Reached, begins, rests, one_longer, marks_after, accepted-true}
use Rattle.mot_playout.proofs.Runs.{accepted-false}
use Rattle.mot_playout.specs.RunAnswers.{AreAnswered}
use Rattle.mot_playout.proofs.RunAnswered.{answered_true, answered_false, answered_end}
use Rattle.mot_playout.proofs.RunAnswered.{answered_halted, answered_no_memory, answered_whole}
use Rattle.mot_playout.proofs.RunAnswered.{keeps_layout}
use Rattle.mot_playout.proofs.Answered.{goes_on_true, goes_on_false, ends_here, run_fault}
use Rattle.mot_playout.proofs.Answered.{as_halted, no_fault_in, no_fault_of}
use Rattle.mot_playout.proofs.server.Server.run.Given as given
use Rattle.mot_playout.proofs.server.Server.run.Goals as goal
use Rattle.mot_playout.proofs.server.Server.run.Goals.{After-execute, in-Ok-execute}
use Rattle.mot_playout.proofs.server.Server.run.Goals.{in-Err+else-ends_run}

-- the command of this round is the one behind those that have marks
command_at : (g : given.Over) (c : After-execute g)
    → slice_get c.args.commands.now (length c.loop-command.done.items) ≡ Some c.command-item.result
command_at g c =
    let read = slice_get_read c.args.commands.now _ c.loop-command.command-index
    c.command-item.result refl c.loop-command-test.true c.command-item.is in
    subst (λ i. slice_get c.args.commands.now i ≡ Some c.command-item.result)
    (sym c.loop-command.invariant.index) read

pub returns-then-halted-clause-runs : goal.returns-then-halted-clause-runs
returns-then-halted-clause-runs g c = record {
  keeps = search rules;
  answers = answered_halted c.args.self.now.view c.args.commands.now _ c.new.ensures.items
      (search rules);
  whole = tt;
  fault = search rules;
  leaves = search rules;
}

pub returns-in_default-clause-runs : goal.returns-in_default-clause-runs
returns-in_default-clause-runs g c =
    let state = g.D.Disk.state c.args.self.now.disk in
    let view = c.args.self.now.view in
    record {
      keeps = search rules;
      answers = answered_no_memory view c.args.commands.now _ c.new-in_default.ensures.items
          (search rules);
      whole = tt;
      fault = search rules;
      leaves = λ s holds.
          let sound = g.met.D.Disk.sound c.args.self.now.disk holds.journal.honest in
          subst (λ l. RunLeaves view view state state s c.args.commands.now l (Some OutOfMemory))
          (sym c.new-in_default.ensures.items)
          (rests view.journal.layout view view state state s c.args.commands.now []
          (Some OutOfMemory) refl (begins view state s c.args.commands.now sound holds));
    }

pub returns-clause-runs : goal.returns-clause-runs
returns-clause-runs g c =
    let state = g.D.Disk.state in
    record {
      keeps = c.loop-command.invariant.keeps;
      answers = answered_whole c.args.self.now.view c.loop-command.self.view
          c.args.commands.now c.loop-command.done.items (search rules)
          c.loop-command.invariant.answered;
      whole = search rules;
      fault = tt;
      leaves = λ s holds.
          rests c.args.self.now.view.journal.layout c.args.self.now.view c.loop-command.self.view
          (state c.args.self.now.disk) (state c.loop-command.self.disk) s c.args.commands.now
          c.loop-command.done.items None refl (c.loop-command.invariant.reached s holds);
    }

pub returns-then-ends_run-clause-runs : goal.returns-then-ends_run-clause-runs
returns-then-ends_run-clause-runs g c =
    let state = g.D.Disk.state in
    let old = c.args.self.now in
    let mid = c.loop-command.self in
    let new = c.execute.new.self in
    let so_far = c.loop-command.invariant in
    let commands = c.args.commands.now in
    let done = c.loop-command.done.items in
    let at = command_at g (goal.at.returns-then-ends_run-clause-runs g c).After-execute in
    let ends = sym c.ends_run.ensures ∙ c.if-ends_run.true in
    record {
      keeps = keeps_all_on (state old.disk) (state mid.disk) (state new.disk) so_far.keeps
          c.in-Err.ensures.keeps;
      answers = answered_end old.view mid.view new.view (state mid.disk) (state new.disk) commands
          done c.command-item.result at so_far.answered c.in-Err.refusal ends
          c.in-Err.ensures.answered;
      whole = tt;
      fault = run_fault old.view mid.view new.view (state old.disk) (state mid.disk)
          (state new.disk) c.command-item.result c.in-Err.refusal so_far.keeps.frame.later
          c.in-Err.ensures.keeps.frame.later so_far.halted ends c.in-Err.ensures.answered;
      leaves = λ s holds.
          let reached = so_far.reached s holds in
          ends_here old.view.journal.layout mid.view new.view (state old.disk) (state mid.disk)
          (state new.disk) s commands done c.command-item.result at reached c.in-Err.ensures.keeps
          (c.in-Err.ensures.any_moment reached.last reached.holds) old.view refl
          (g.met.D.Disk.sound new.disk) c.in-Err.refusal c.in-Err.ensures.answered;
    }

pub loop-command-init : goal.loop-command-init
loop-command-init g c = record {
  keeps = search rules;
  halted = refl;
  answered = subst (λ l. AreAnswered c.args.self.now.view c.args.commands.now l
      c.args.self.now.view) (sym c.in-Ok.ensures.items) refl;
  index = search rules;
  room = search rules;
  plays = λ s last holds after.
      none_done c.args.self.now c.args.commands.now c.in-Ok.done.items c.in-Ok.ensures.items s last
      after;
  reached = λ s holds.
      let state = g.D.Disk.state c.args.self.now.disk in
      let view = c.args.self.now.view in
      let sound = g.met.D.Disk.sound c.args.self.now.disk holds.journal.honest in
      subst (λ l. Reached view.journal.layout view state state s c.args.commands.now l)
      (sym c.in-Ok.ensures.items) (begins view state s c.args.commands.now sound holds);
}

pub loop-command-preserved : goal.loop-command-preserved
loop-command-preserved g c =
    let state = g.D.Disk.state in
    let index = c.loop-command.invariant.index in
    let at = command_at g (goal.at.loop-command-preserved g c).After-execute in
    elim c.match-execute.branch [
      | in-Ok-execute w ↦
          let now = ap (λ (v : Vec Bool). v.items) w.done-is ∙ w.push_reserved.ensures.items in
          let run = w.in-Ok-execute.ensures in
          record {
            keeps = keeps_all_on (state c.args.self.now.disk) (state c.loop-command.self.disk)
                (state c.execute.new.self.disk) c.loop-command.invariant.keeps run.keeps;
            halted = as_halted c.loop-command.self.view c.execute.new.self.view
                (state c.loop-command.self.disk) (state c.execute.new.self.disk)
                c.command-item.result (Ok w.in-Ok-execute.field-0)
                (no_fault_in w.in-Ok-execute.field-0) run.answered
                ∙ c.loop-command.invariant.halted;
            answered = subst (λ l. AreAnswered c.args.self.now.view c.args.commands.now l
                c.execute.new.self.view) (sym now)
                (answered_true c.args.self.now.view c.loop-command.self.view
                c.execute.new.self.view (state c.loop-command.self.disk)
                (state c.execute.new.self.disk) c.args.commands.now c.loop-command.done.items
                c.command-item.result at c.loop-command.invariant.answered
                w.in-Ok-execute.field-0 run.answered);
            index = one_longer c.loop-command.done.items c.match-execute.done.items true
                c.loop-command.command-index now index;
            room = subst (λ n. length c.args.commands.now ≤ n)
                (sym (ap (λ (v : Vec Bool). vec_capacity v) w.done-is
                ∙ w.push_reserved.ensures.capacity)) c.loop-command.invariant.room;
            plays = λ s last holds after.
                let so_far = c.loop-command.invariant.reached s holds in
                let marks = c.loop-command.done.items in
                let commands = c.args.commands.now in
                let step = run.ok so_far.last so_far.holds in
                let accepted = marks_after c.args.self.now.view.journal.layout s commands marks
                so_far.last so_far.marked in
                turns_there c.loop-command.self c.execute.new.self
                (accepted_commands commands marks)
                (accepted_commands commands c.match-execute.done.items)
                c.command-item.result w.in-Ok-execute.field-0 s so_far.last step.0 last
                (place_in c.args.self.now s)
                (ap (accepted_commands commands) now
                ∙ accepted-true commands marks c.command-item.result at)
                accepted step.1 (c.loop-command.invariant.plays s so_far.last holds accepted)
                (run.place so_far.last step.0 so_far.holds step.2.agrees step.1) after;
            reached = λ s holds.
                let so_far = c.loop-command.invariant.reached s holds in
                subst (λ l. Reached c.args.self.now.view.journal.layout c.execute.new.self.view
                (state c.args.self.now.disk) (state c.execute.new.self.disk) s
                c.args.commands.now l) (sym now)
                (goes_on_true c.args.self.now.view.journal.layout c.loop-command.self.view
                c.execute.new.self.view (state c.args.self.now.disk)
                (state c.loop-command.self.disk) (state c.execute.new.self.disk) s
                c.args.commands.now c.loop-command.done.items c.command-item.result at so_far
                run.keeps (run.any_moment so_far.last so_far.holds) w.in-Ok-execute.field-0
                run.answered (run.ok so_far.last so_far.holds)
                (g.met.D.Disk.sound c.execute.new.self.disk));
          }
      | in-Err+else-ends_run w ↦
          let now = ap (λ (v : Vec Bool). v.items) w.done-is
          ∙ w.push_reserved-in-Err.ensures.items in
          let run = w.in-Err.ensures in
          record {
            keeps = keeps_all_on (state c.args.self.now.disk) (state c.loop-command.self.disk)
                (state c.execute.new.self.disk) c.loop-command.invariant.keeps run.keeps;
            halted = as_halted c.loop-command.self.view c.execute.new.self.view
                (state c.loop-command.self.disk) (state c.execute.new.self.disk)
                c.command-item.result (Err w.in-Err.refusal)
                (no_fault_of w.in-Err.refusal (sym w.ends_run.ensures ∙ w.if-ends_run.false))
                run.answered ∙ c.loop-command.invariant.halted;
            answered = subst (λ l. AreAnswered c.args.self.now.view c.args.commands.now l
                c.execute.new.self.view) (sym now)
                (answered_false c.args.self.now.view c.loop-command.self.view
                c.execute.new.self.view (state c.loop-command.self.disk)
                (state c.execute.new.self.disk) c.args.commands.now c.loop-command.done.items
                c.command-item.result at c.loop-command.invariant.answered
                w.in-Err.refusal (sym w.ends_run.ensures ∙ w.if-ends_run.false) run.answered);
            index = one_longer c.loop-command.done.items c.match-execute.done.items false
                c.loop-command.command-index now index;
            room = subst (λ n. length c.args.commands.now ≤ n)
                (sym (ap (λ (v : Vec Bool). vec_capacity v) w.done-is
                ∙ w.push_reserved-in-Err.ensures.capacity)) c.loop-command.invariant.room;
            plays = λ s last holds after.
                let marks = c.loop-command.done.items in
                let commands = c.args.commands.now in
                let same = ap (accepted_commands commands) now
                ∙ accepted-false commands marks c.command-item.result at in
                subst (λ l. place_in c.execute.new.self last
                ≡ place_behind s l (place_in c.args.self.now s)) (sym same)
                (stays_there c.loop-command.self c.execute.new.self last
                (place_behind s (accepted_commands commands marks)
                (place_in c.args.self.now s)) run.stays
                (c.loop-command.invariant.plays s last holds
                (subst (λ l. IsAfter s l last) same after)));
            reached = λ s holds.
                let so_far = c.loop-command.invariant.reached s holds in
                subst (λ l. Reached c.args.self.now.view.journal.layout c.execute.new.self.view
                (state c.args.self.now.disk) (state c.execute.new.self.disk) s
                c.args.commands.now l) (sym now)
                (goes_on_false c.args.self.now.view.journal.layout c.loop-command.self.view
                c.execute.new.self.view (state c.args.self.now.disk)
                (state c.loop-command.self.disk) (state c.execute.new.self.disk) s
                c.args.commands.now c.loop-command.done.items c.command-item.result at so_far
                run.keeps (run.any_moment so_far.last so_far.holds) w.in-Err.refusal
                (sym w.ends_run.ensures ∙ w.if-ends_run.false) run.answered);
          }
    ]

pub returns-in_default-clause-place : goal.returns-in_default-clause-place
returns-in_default-clause-place g c = λ s last holds after.
    none_done c.args.self.now c.args.commands.now c.new-in_default.result.items
    c.new-in_default.ensures.items s last after

pub returns-then-ends_run-clause-place : goal.returns-then-ends_run-clause-place
returns-then-ends_run-clause-place g c = λ s last holds after.
    let accepted = accepted_commands c.args.commands.now c.loop-command.done.items in
    stays_there c.loop-command.self c.execute.new.self last
    (place_behind s accepted (place_in c.args.self.now s)) c.in-Err.ensures.stays
    (c.loop-command.invariant.plays s last holds after)

pub returns-then-ends_run-clause-layout : goal.returns-then-ends_run-clause-layout
returns-then-ends_run-clause-layout g c = keeps_layout c.args.self.now.view
    c.execute.new.self.view c.args.commands.now c.loop-command.done.items (Some c.in-Err.refusal)
    (returns-then-ends_run-clause-runs g c).answers

pub returns-clause-layout : goal.returns-clause-layout
returns-clause-layout g c = keeps_layout c.args.self.now.view c.loop-command.self.view
    c.args.commands.now c.loop-command.done.items None (returns-clause-runs g c).answers

pub returns-then-halted-clause-anew : goal.returns-then-halted-clause-anew
returns-then-halted-clause-anew g c = begins_anew

pub returns-in_default-clause-anew : goal.returns-in_default-clause-anew
returns-in_default-clause-anew g c = begins_anew

pub returns-then-ends_run-clause-anew : goal.returns-then-ends_run-clause-anew
returns-then-ends_run-clause-anew g c = begins_anew

pub returns-clause-anew : goal.returns-clause-anew
returns-clause-anew g c = begins_anew
