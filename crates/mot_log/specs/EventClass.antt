-- What an event counts as.
use Rattle.std.specs.Prelude.{ℕ, if◌then◌else◌, nat_lt}
use Rattle.mot_events.specs.declared.event.Event.{Event}
use Rattle.mot_events.specs.declared.event.Event.TheVariants as event
use Rattle.mot_events.specs.declared.event.LookResult.{LookResult}
use Rattle.mot_events.specs.declared.event.LookResult.TheVariants as outcome
use Rattle.mot_events.specs.declared.event.Reply.{Reply}
use Rattle.mot_events.specs.declared.event.Reply.TheVariants as reply
use Rattle.mot_log.specs.declared.tally.EventClass.{EventClass}
use Rattle.mot_log.specs.declared.tally.EventClass.TheVariants.{Change, Doubt, Going, Kept, Look}
use Rattle.mot_log.specs.declared.tally.EventClass.TheVariants.{LineRefusal, News, Refusal, Stop}
use Rattle.mot_numbers.specs.declared.refusal.Refusal.TheVariants.{WriteFault}

-- more than half of the objects go, which are so many: no more than three are no warning
abbrev pub class_of_going : ℕ → EventClass
class_of_going count = if nat_lt 3 count then Going else News

-- what a look met: no name has a part in it
abbrev pub class_of_result : LookResult → EventClass
class_of_result (outcome.Done step done) = Change
class_of_result (outcome.Refused step refusal why) = Refusal refusal
class_of_result (outcome.Going unknown all) = class_of_going unknown
class_of_result outcome.Kept = Kept
class_of_result (outcome.KeptMost going all) = Kept
class_of_result (outcome.OtherImage other) = Doubt
class_of_result other = News

-- what a line of a file was answered
abbrev pub class_of_reply : Reply → EventClass
class_of_reply (reply.Done done) = Change
class_of_reply (reply.Refused refusal why) = LineRefusal refusal
class_of_reply (reply.Shown text) = News

abbrev pub class_of : Event → EventClass
class_of (event.Look look) = class_of_result look.now.outcome
class_of event.Looked = Look
class_of (event.LookTook folder seconds) = Doubt
class_of (event.LinesRefused name refusal why) = LineRefusal refusal
class_of (event.Answered file number verb subject answer) = class_of_reply answer
class_of (event.StatusRefused path why) = Refusal WriteFault
class_of (event.Stopped refusal) = Stop refusal
class_of other = News
