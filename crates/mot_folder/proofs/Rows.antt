-- The definitions, computed on worked rows.
use Rattle.std.proofs.Common.{List, ℕ, ◌≡◌, [], ◌∷◌, ◌++◌, Some, None, true, false, refl}
use Rattle.std.specs.Prelude.{codes}
use Rattle.std.specs.Fmt.{digits}
use Rattle.std.specs.Str.{chars, is_utf8}
use lib.Utf8.{encode}
use Rattle.mot_folder.specs.Listed.{and_in_order, names_in, object_names, with_type}
use Rattle.mot_events.specs.Events.{event_of}
use Rattle.mot_log.specs.Text.{look_line}
use Rattle.mot_events.specs.declared.event.LookStep.TheVariants as step
use Rattle.mot_events.specs.declared.event.LookResult.TheVariants as outcome
use Rattle.mot_events.specs.declared.event.Skip.TheVariants as skip
use Rattle.mot_events.specs.declared.event.Why.TheVariants.{Bytes, Control, NotUtf8, Space, Unsaid}
use Rattle.mot_events.specs.declared.event.Why.TheVariants.{Words}
use Rattle.mot_folder.specs.Inner.Reading.{unread_for}
use Rattle.mot_folder.specs.Inner.Reasons.{why_nameless, why_not_stored}
use Rattle.mot_folder.specs.Log.{event_of_answer, result_for, names_read, of_look, told_of}
use Rattle.mot_folder.specs.Log.{unlisted_for, waiting_in}
use Rattle.mot_folder.specs.Guard.{guard_of, is_kept}
use Rattle.mot_folder.specs.Looked.{is_look_due, packets_left_behind, packets_left}
use Rattle.mot_folder.specs.declared.guard.Guard.TheVariants.{Empty, Most}
use Rattle.mot_folder.specs.declared.listing.TheConstants.{MAX_NAMES}
use Rattle.mot_folder.specs.declared.looking.TheConstants.{PACKETS, SOON}
use Rattle.mot_numbers.specs.declared.refusal.Refusal.{Refusal}
use Rattle.mot_numbers.specs.declared.refusal.Refusal.TheVariants.{EmptyBody, Halted, NoRoom}
use Rattle.mot_numbers.specs.declared.refusal.Refusal.TheVariants.{ReadFault, TooManyObjects}
use Rattle.mot_playout.specs.declared.running.Attempt.TheVariants.{Accepted, Refused}
use Rattle.mot_suffixes.specs.Types.{known_types}
use Rattle.mot_update.specs.Told.{Answer, Put, Replaced, Withdrew}

put_line : look_line (event_of_answer
    (Put (codes "a.png") (Accepted (record { object = Some 2; directory = 3 }))))
    ≡ codes "put a.png done object 2 directory 3\n"
unfolding digits is_utf8 chars encode
put_line = refl

withdrawn_line : look_line
    (event_of_answer (Withdrew (codes "a") (Accepted (record { object = None; directory = 4 }))))
    ≡ codes "withdraw a done directory 4\n"
unfolding digits is_utf8 chars encode
withdrawn_line = refl

refused_line : look_line (event_of_answer (Replaced (codes "a") (Refused NoRoom)))
    ≡ codes "replace a refused 12 NoRoom\n"
unfolding digits is_utf8 chars encode
refused_line = refl

-- for want of room the reason is how many bytes an object has, and else how many there may be
refused_put : Refusal → List ℕ
refused_put refusal = look_line (event_of (codes "a") (result_for step.Put (Refused refusal)
    (why_not_stored (record { length = 20; most = 40; waiting = 0 }) (Refused refusal))))

no_room_line : refused_put NoRoom ≡ codes "put a refused 12 NoRoom: 20 bytes\n"
unfolding digits is_utf8 chars encode refused_put
no_room_line = refl

too_many_line : refused_put TooManyObjects ≡ codes "put a refused 11 TooManyObjects: 40 at most\n"
unfolding digits is_utf8 chars encode refused_put
too_many_line = refl

halted_line : refused_put Halted ≡ codes "put a refused 16 Halted\n"
unfolding digits is_utf8 chars encode refused_put
halted_line = refl

unlisted_for_line : look_line (unlisted_for (codes "d") ReadFault (Words (codes "a\nb")))
    ≡ codes "look d refused 22 ReadFault: a?b\n"
unfolding digits is_utf8 chars encode
unlisted_for_line = refl

-- what is told of the look is the same with a reason and without
reason_beside : of_look (event_of (codes "a") (result_for step.Put (Refused NoRoom) (Bytes 20)) ∷ [])
    ≡ event_of_answer (Put (codes "a") (Refused NoRoom)) ∷ []
reason_beside = refl

unread_line : look_line (unread_for (codes "b.xml") EmptyBody Unsaid)
    ≡ codes "read b.xml refused 6 EmptyBody\n"
unfolding digits is_utf8 chars encode
unread_line = refl

-- why the name of a file is no object's
of_a_space : why_nameless (codes "a b.png") ≡ Space
unfolding is_utf8 chars encode
of_a_space = refl

of_a_tab : why_nameless (codes "a\tb.png") ≡ Control
unfolding is_utf8 chars encode
of_a_tab = refl

-- a byte above 0x7F alone
of_no_text : why_nameless (codes "a b" ++ 252 ∷ []) ≡ NotUtf8
unfolding is_utf8 chars encode
of_no_text = refl

-- a name that is not UTF-8 is left out, with `?` for each byte that is no printed one of ASCII
skipped_line : look_line (event_of (codes "caf" ++ 233 ∷ codes ".png") (outcome.Skipped skip.NotUtf8))
    ≡ codes "skip caf?.png not UTF-8\n"
unfolding digits is_utf8 chars encode
skipped_line = refl

listed_line : look_line (event_of (codes "d") outcome.Listed) ≡ codes "look d listed\n"
unfolding digits is_utf8 chars encode
listed_line = refl

kept_line : look_line (event_of (codes "d") outcome.Kept) ≡ codes "look d empty, kept\n"
unfolding digits is_utf8 chars encode
kept_line = refl

kept_most_line : look_line (event_of (codes "d") (outcome.KeptMost 7 8))
    ≡ codes "look d 7 of 8 objects would go, kept\n"
unfolding digits is_utf8 chars encode
kept_most_line = refl

-- an empty folder leaves two objects where they are, but for who allows it
stay : is_kept Empty [] 2 2 ≡ true
stay = refl

go : is_kept (guard_of true true) [] 2 2 ≡ false
go = refl

some_stay : is_kept Empty (codes "a.png" ∷ []) 7 8 ≡ false
some_stay = refl

none_there : is_kept Most [] 0 0 ≡ false
none_there = refl

-- most stay only where that is asked for: more than half of the objects, and more than three
most_stay : is_kept (guard_of false true) (codes "a.png" ∷ []) 4 7 ≡ true
most_stay = refl

half_go : is_kept Most (codes "a.png" ∷ []) 4 8 ≡ false
half_go = refl

three_go : is_kept Most (codes "a.png" ∷ []) 3 4 ≡ false
three_go = refl

all_three_stay : is_kept Most [] 3 3 ≡ true
all_three_stay = refl

-- a note is told of no command, nor is a file that was not taken
beside : of_look (event_of (codes "d") (outcome.Going 2 3) ∷ unread_for (codes "b") EmptyBody Unsaid
    ∷ event_of (codes "c") outcome.Young ∷ event_of_answer (Put (codes "a") (Refused NoRoom)) ∷ [])
    ≡ event_of_answer (Put (codes "a") (Refused NoRoom)) ∷ []
beside = refl

-- of three objects that wait the first is told, and the three are counted
three_wait : List Answer
three_wait = Put (codes "a") (Refused TooManyObjects) ∷ Put (codes "b") (Refused NoRoom)
    ∷ Put (codes "c") (Refused TooManyObjects) ∷ Put (codes "d") (Refused TooManyObjects) ∷ []

first_told : told_of three_wait ≡ Put (codes "a") (Refused TooManyObjects)
    ∷ Put (codes "b") (Refused NoRoom) ∷ []
unfolding three_wait
first_told = refl

three_counted : waiting_in three_wait ≡ 3
unfolding three_wait
three_counted = refl

waiting_line : look_line (event_of (codes "d") (outcome.Waiting 40 3))
    ≡ codes "note d 40 objects at most, 3 files wait\n"
unfolding digits is_utf8 chars encode
waiting_line = refl

-- only of a file that was not taken the name is one of these
read_names : names_read (event_of (codes "d") (outcome.Gap 2) ∷ unread_for (codes "b") EmptyBody Unsaid
    ∷ event_of (codes "c") outcome.Young ∷ event_of_answer (Put (codes "a") (Refused NoRoom)) ∷ [])
    ≡ codes "b" ∷ codes "c" ∷ []
read_names = refl

-- before the first packet, behind the thousandth where it ends a turn, and behind a later one
due_first : is_look_due 0 true ≡ true
due_first = refl

due_thousandth : is_look_due 1 true ≡ true
due_thousandth = refl

not_due_within : is_look_due 1 false ≡ false
not_due_within = refl

not_due_before : is_look_due 2 true ≡ false
not_due_before = refl

packets : packets_left false 700 ≡ 700
packets = refl

soon : packets_left true 700 ≡ 100
soon = refl

soon_enough : packets_left true 50 ≡ 50
soon_enough = refl

-- how many packets come before a look, and before one that may take what was left
packets_between : PACKETS ≡ 1000
packets_between = refl

packets_before_soon : SOON ≡ 100
packets_before_soon = refl

early_not_counted : packets_left_behind true false 7 ≡ 7
early_not_counted = refl

each_counted : packets_left_behind false false 7 ≡ 6
each_counted = refl

most_names : MAX_NAMES ≡ 1000
most_names = refl

-- names, each ended by a zero byte; what no zero ends is none
names_cut : names_in (codes "a.png" ++ 0 ∷ codes "b" ++ 0 ∷ codes "c")
    ≡ codes "a.png" ∷ codes "b" ∷ []
names_cut = refl

no_names : names_in [] ≡ []
no_names = refl

-- of these names those with a suffix
suffixes : with_type known_types (codes "a.png" ∷ codes "b.doc" ∷ codes ".c.png" ∷ codes "d.TXT" ∷ [])
    ≡ codes "a.png" ∷ codes "d.TXT" ∷ []
suffixes = refl

-- of these names of files those of objects: one with a space is none
objects : object_names (codes "b.png" ∷ codes "a b.png" ∷ codes "a.png" ∷ codes "b.png" ∷ [])
    ≡ codes "a.png" ∷ codes "b.png" ∷ []
unfolding is_utf8 chars encode
objects = refl

-- capital letters stand before small ones, and a beginning before what it begins
in_order : and_in_order (codes "B" ∷ codes "a" ∷ codes "b" ∷ []) (codes "ab")
    ≡ codes "B" ∷ codes "a" ∷ codes "ab" ∷ codes "b" ∷ []
in_order = refl
