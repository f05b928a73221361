-- Updates and packets, one after the other.
use Rattle.std.proofs.Common.{◌≡◌, ◌<◌, ℕ, zero, suc, ◌+◌, ◌-◌, Bool, true, false, List, [], ◌∷◌}
use Rattle.std.proofs.Common.{◌++◌, length, map, Option, Some, None, Ok, Err, refl, sym, ap, ◌∙◌}
use Rattle.std.proofs.Common.{subst, arith, length-append, append-nil, inl, inr, take}
use Rattle.std.proofs.lemmas.List.{map-append}
use Rattle.std.proofs.lemmas.Option.{none-some}
use Rattle.std.specs.Prelude.{◌⊎◌, ◌≢◌, if◌then◌else◌, is_some}
use Rattle.std.specs.Option.{option_map_or}
use Rattle.disk_model.specs.Disk.{State, IsHonestDisk, IsUnchanged}
use Rattle.mot_feed.specs.Feeding.{AreOf, AreTold, EndsFeed, Event, FedPacketsAreContinuous, Happen}
use Rattle.mot_feed.specs.Feeding.{HasFed, RulesAreKept, Stage, commands_among, is_between_turns}
use Rattle.mot_feed.specs.Feeding.{left_after, left_behind, moment_at, moment_behind, sents_in}
use Rattle.mot_feed.specs.Feeding.{turns_in, SendsPacket, Feeds, is_due, look_in, pause, server_for}
use Rattle.mot_feed.specs.OnAir.{is_turn}
use Rattle.mot_feed.specs.Feeding.AreTold.{no_call, one_asked, one_call, one_played}
use Rattle.mot_feed.specs.Feeding.EndsFeed.{all_numbers, all_turns, of_call, of_packet, of_write}
use Rattle.mot_feed.specs.Feeding.Stage.{Called, Ready}
use Rattle.mot_feed.specs.Feeding.Event.{Accepted, Asked, Played}
use Rattle.mot_feed.specs.declared.manner.Manner.{Manner}
use Rattle.mot_feed.specs.Feeding as one
use Rattle.mot_feed.proofs.Hearing.{OftenUpTo, asks, left_for, often-accepted, often-all}
use Rattle.mot_feed.proofs.Hearing.{often-asked, often-cut, often-none, often-sent}
use Rattle.mot_feed.proofs.Grown.{grows_nil, grows_trans, grows_kept}
use Rattle.mot_feed.proofs.Sent.{not_fine}
use Rattle.mot_journal.specs.Image.{Standing}
use Rattle.mot_numbers.specs.Reading.{◌>>=◌}
use Rattle.mot_numbers.proofs.Laws.{read_each-append}
use Rattle.mot_numbers.specs.declared.geometry.Geometry.{Geometry}
use Rattle.mot_numbers.specs.declared.refusal.Refusal.{Refusal}
use Rattle.mot_numbers.specs.declared.refusal.Refusal.TheVariants.{WriteFault}
use Rattle.mot_objects.specs.Carousel.{Carousel, carousel_after, carousel_if_accepted, change}
use Rattle.mot_objects.specs.Carousel.{AllKeepRules}
use Rattle.mot_objects.specs.declared.command.Command.{Command}
use Rattle.mot_packets.specs.Written.{Grows, bytes_of_packet}
use Rattle.mot_packets.specs.Packet.{PacketFields, read_packet}
use Rattle.mot_player.proofs.Laws.{start-continuous}
use Rattle.mot_player.specs.Laws.{AreSent, IsStep}
use Rattle.mot_player.specs.Place.{Place, Sent, Step, Request, NewTurn, Directory, Follow}
use Rattle.mot_player.specs.Place.{change_turn, changed, follow, hear_directory, sent_by}
use Rattle.mot_player.specs.Start.{start_place}
use Rattle.mot_player.specs.Turn.{Turn, turn_of_carousel}
use Rattle.mot_repository.specs.Repository.{Holds, RepositoryView}
use Rattle.mot_repository.proofs.Laws.{rules_kept}
use Rattle.mot_playout.specs.RunEnds.{RulesAlong, place_after}
use Rattle.mot_playout.specs.Runs.{accepted_commands, ServerView, place_in}
use Rattle.mot_playout.proofs.Laws.{accepted-join, reads_leave, runs_join}
use Rattle.mot_update.specs.HasRun.{IsUpdating, Telling, HasRun}
use Rattle.mot_update.proofs.Laws.{same_err, same_ok, same_some}
use Rattle.mot_update.specs.declared.moment.UpdatePoint.{UpdatePoint}

-- ---- events in a row

happen-join : (limit size : ℕ) (c mid last : Carousel) (place between new : Place)
    (events others : List Event) → Happen limit size c place events mid between
    → Happen limit size mid between others last new
    → Happen limit size c place (events ++ others) last new
happen-join limit size c mid last place between new [] others one two =
    subst (λ (p : Place). Happen limit size c p others last new) (sym one.1)
    (subst (λ (k : Carousel). Happen limit size k between others last new) (sym one.0) two)
happen-join limit size c mid last place between new (Played sent ∷ events) others one two =
    (one.0, happen-join limit size c mid last sent.place between new events others one.1 two)
happen-join limit size c mid last place between new (Accepted command ∷ events) others one two = (
  one.0,
  one.1,
  happen-join limit size one.0 mid last (changed (turn_of_carousel one.0 size) place) between
      new events others one.2 two,
)
happen-join limit size c mid last place between new (Asked ∷ events) others one two =
    happen-join limit size c mid last (hear_directory place) between new events others one two

commands_among-append : (events others : List Event)
    → commands_among (events ++ others) ≡ commands_among events ++ commands_among others
commands_among-append [] others = refl
commands_among-append (Played sent ∷ events) others = commands_among-append events others
commands_among-append (Accepted command ∷ events) others =
    ap (λ l. command ∷ l) (commands_among-append events others)
commands_among-append (Asked ∷ events) others = commands_among-append events others

sents_in-append : (events others : List Event)
    → sents_in (events ++ others) ≡ sents_in events ++ sents_in others
sents_in-append [] others = refl
sents_in-append (Played sent ∷ events) others = ap (λ l. sent ∷ l) (sents_in-append events others)
sents_in-append (Accepted command ∷ events) others = sents_in-append events others
sents_in-append (Asked ∷ events) others = sents_in-append events others

ended-append : (ended : Bool) (events others : List Event)
    → is_between_turns ended (events ++ others)
    ≡ is_between_turns (is_between_turns ended events) others
ended-append ended [] others = refl
ended-append ended (Played sent ∷ events) others = ended-append sent.ends_turn events others
ended-append ended (Accepted command ∷ events) others = ended-append ended events others
ended-append ended (Asked ∷ events) others = ended-append ended events others

left-append : (look : ℕ) (ended : Bool) (left : ℕ) (events others : List Event)
    → left_after look ended left (events ++ others)
    ≡ left_after look (is_between_turns ended events) (left_after look ended left events) others
left-append look ended left [] others = refl
left-append look ended left (Played sent ∷ events) others =
    left-append look sent.ends_turn (left_behind look ended left sent) events others
left-append look ended left (Accepted command ∷ events) others =
    left-append look ended left events others
left-append look ended left (Asked ∷ events) others = left-append look ended left events others

turns-append : (events others : List Event)
    → turns_in (events ++ others) ≡ turns_in events + turns_in others
turns-append [] others = omega arith
turns-append (Played sent ∷ events) others =
    omega (arith, turns-append events others)
turns-append (Accepted command ∷ events) others = turns-append events others
turns-append (Asked ∷ events) others = turns-append events others

abbrev packet_of : Sent → List ℕ
packet_of s = bytes_of_packet s.packet

pub are-append : (events others : List Event) (packets more : List (List ℕ)) → AreOf events packets
    → AreOf others more → AreOf (events ++ others) (packets ++ more)
are-append events others packets more one two =
    let sents = sents_in events in
    let rest = sents_in others in
    let fields : List Sent → List PacketFields = map (λ (s : Sent). s.packet) in
    let all = sym (sents_in-append events others) in
    record {
      bytes = ap (λ l. l ++ more) one.bytes ∙ ap (λ l. map packet_of sents ++ l) two.bytes
          ∙ sym (map-append packet_of sents rest) ∙ ap (map packet_of) all;
      read = subst (λ l. AreSent l (packets ++ more)) all
          (read_each-append read_packet packets more (fields sents) (fields rest) one.read two.read
          ∙ ap (λ (ps : List PacketFields). Some ps)
          (sym (map-append (λ (s : Sent). s.packet) sents rest)));
    }

pub are-none : AreOf [] []
are-none = record { bytes = refl; read = refl }

-- ---- the commands of an update

happen-cases : (limit size : ℕ) (command : Command) (commands : List Command) (c last : Carousel)
    (place : Place) (o : Option Carousel) → carousel_if_accepted (change c limit command) ≡ o
    → (o >>= λ next. carousel_after next limit commands) ≡ Some last
    → ((next : Carousel) (p : Place) → carousel_after next limit commands ≡ Some last
    → Happen limit size next p (map Accepted commands) last
    (place_after limit size next commands p))
    → Happen limit size c place (Accepted command ∷ map Accepted commands) last
    (option_map_or (λ next.
    place_after limit size next commands (changed (turn_of_carousel next size) place)) o place)
happen-cases limit size command commands c last place None is rest tail =
    absurd (none-some last rest)
happen-cases limit size command commands c last place (Some next) is rest tail =
    (next, is, tail next (changed (turn_of_carousel next size) place) rest)

happen-commands : (limit size : ℕ) (commands : List Command) (c last : Carousel) (place : Place)
    → carousel_after c limit commands ≡ Some last
    → Happen limit size c place (map Accepted commands) last
    (place_after limit size c commands place)
unfolding carousel_after
happen-commands limit size [] c last place e = (same_some c last e, refl)
happen-commands limit size (command ∷ commands) c last place e =
    happen-cases limit size command commands c last place
    (carousel_if_accepted (change c limit command)) refl e
    (λ next p rest. happen-commands limit size commands next last p rest)

accepted-map : (commands : List Command) → commands_among (map Accepted commands) ≡ commands
accepted-map [] = refl
accepted-map (command ∷ commands) = ap (λ l. command ∷ l) (accepted-map commands)

sents-map : (commands : List Command) → sents_in (map Accepted commands) ≡ []
sents-map [] = refl
sents-map (command ∷ commands) = sents-map commands

ended-map : (ended : Bool) (commands : List Command)
    → is_between_turns ended (map Accepted commands) ≡ ended
ended-map ended [] = refl
ended-map ended (command ∷ commands) = ended-map ended commands

left-map : (look : ℕ) (ended : Bool) (left : ℕ) (commands : List Command)
    → left_after look ended left (map Accepted commands) ≡ left
left-map look ended left [] = refl
left-map look ended left (command ∷ commands) = left-map look ended left commands

turns-map : (commands : List Command) → turns_in (map Accepted commands) ≡ 0
turns-map [] = refl
turns-map (command ∷ commands) = turns-map commands

-- commands bring no packet
are-more : (events : List Event) (commands : List Command) (packets : List (List ℕ))
    → AreOf events packets → AreOf (events ++ map Accepted commands) packets
are-more events commands packets are =
    let same : sents_in events ≡ sents_in (events ++ map Accepted commands) =
    sym (sents_in-append events (map Accepted commands)
    ∙ ap (λ l. sents_in events ++ l) (sents-map commands) ∙ append-nil (sents_in events)) in
    record {
      bytes = are.bytes ∙ ap (map packet_of) same;
      read = subst (λ l. AreSent l packets) same are.read;
    }

-- ---- rules that are kept

-- of commands alone
rules-commands : (limit : ℕ) (commands : List Command) (c : Carousel)
    → RulesAlong limit c commands → RulesAreKept limit c (map Accepted commands)
rules-commands limit [] c along = tt
rules-commands limit (command ∷ commands) c along = λ next made.
    let step = along next made in (step.0, rules-commands limit commands next step.1)

-- without a command the same carousel stands
rules-packets : (limit : ℕ) (events : List Event) (c : Carousel) → commands_among events ≡ []
    → AllKeepRules c → RulesAreKept limit c events
rules-packets limit [] c none rules = tt
rules-packets limit (Played sent ∷ events) c none rules =
    (rules, rules-packets limit events c none rules)
rules-packets limit (Asked ∷ events) c none rules = rules-packets limit events c none rules
rules-packets limit (Accepted command ∷ events) c none rules = absurd (cc)

-- events, and then others
rules-join : (limit size : ℕ) (c mid : Carousel) (place between : Place)
    (events others : List Event) → RulesAreKept limit c events
    → Happen limit size c place events mid between → RulesAreKept limit mid others
    → RulesAreKept limit c (events ++ others)
rules-join limit size c mid place between [] others one happen two =
    subst (λ d. RulesAreKept limit d others) (sym happen.0) two
rules-join limit size c mid place between (Played sent ∷ events) others one happen two =
    (one.0, rules-join limit size c mid sent.place between events others one.1 happen.1 two)
rules-join limit size c mid place between (Asked ∷ events) others one happen two =
    rules-join limit size c mid (hear_directory place) between events others one happen two
rules-join limit size c mid place between (Accepted command ∷ events) others one happen two =
    λ next made.
    let same : happen.0 ≡ next = same_some happen.0 next (sym happen.1 ∙ made) in
    let kept = rules-join limit size happen.0 mid
    (changed (turn_of_carousel happen.0 size) place) between events others
    (one happen.0 happen.1).1 happen.2 two in
    ((one next made).0, subst (λ d. RulesAreKept limit d (events ++ others)) same kept)

-- up to some of the events
pub rules_front : (limit : ℕ) (c : Carousel) (events others : List Event)
    → RulesAreKept limit c (events ++ others) → RulesAreKept limit c events
rules_front limit c [] others rules = tt
rules_front limit c (Played sent ∷ events) others rules =
    (rules.0, rules_front limit c events others rules.1)
rules_front limit c (Asked ∷ events) others rules = rules_front limit c events others rules
rules_front limit c (Accepted command ∷ events) others rules = λ next made.
    let step = rules next made in (step.0, rules_front limit next events others step.1)

-- what comes behind events
pub rules_behind : (limit size : ℕ) (c mid : Carousel) (place between : Place)
    (events others : List Event) → RulesAreKept limit c (events ++ others)
    → Happen limit size c place events mid between → RulesAreKept limit mid others
rules_behind limit size c mid place between [] others rules happen =
    subst (λ d. RulesAreKept limit d others) happen.0 rules
rules_behind limit size c mid place between (Played sent ∷ events) others rules happen =
    rules_behind limit size c mid sent.place between events others rules.1 happen.1
rules_behind limit size c mid place between (Asked ∷ events) others rules happen =
    rules_behind limit size c mid (hear_directory place) between events others rules happen
rules_behind limit size c mid place between (Accepted command ∷ events) others rules happen =
    rules_behind limit size happen.0 mid (changed (turn_of_carousel happen.0 size) place) between
    events others (rules happen.0 happen.1).1 happen.2

-- a whole turn is sent of a carousel that keeps the rules
pub rules_of_turn : (limit : ℕ) (c : Carousel) (during others : List Event) → is_turn during ≡ true
    → RulesAreKept limit c (during ++ others) → AllKeepRules c
rules_of_turn limit c [] others is rules = absurd (cc)
rules_of_turn limit c (Accepted command ∷ during) others is rules = absurd (cc)
rules_of_turn limit c (Asked ∷ during) others is rules =
    rules_of_turn limit c during others is rules
rules_of_turn limit c (Played sent ∷ during) others is rules = rules.0

-- ---- the directory asked for, or not

commands-asked : (due : Bool) → commands_among (asks due) ≡ []
commands-asked true = refl
commands-asked false = refl

sents-asked : (due : Bool) → sents_in (asks due) ≡ []
sents-asked true = refl
sents-asked false = refl

ended-asked : (ended due : Bool) → is_between_turns ended (asks due) ≡ ended
ended-asked ended true = refl
ended-asked ended false = refl

turns-asked : (due : Bool) → turns_in (asks due) ≡ 0
turns-asked true = refl
turns-asked false = refl

left-asked : (look : ℕ) (ended : Bool) (left : ℕ) (due : Bool)
    → left_after look ended left (asks due) ≡ left
left-asked look ended left true = refl
left-asked look ended left false = refl

happen-asked : (limit size : ℕ) (c : Carousel) (place new : Place) (due : Bool)
    → new ≡ (if due then hear_directory place else place)
    → Happen limit size c place (asks due) c new
happen-asked limit size c place new true e = (refl, sym e)
happen-asked limit size c place new false e = (refl, sym e)

are-asked : (events : List Event) (due : Bool) (packets : List (List ℕ))
    → AreOf events packets → AreOf (events ++ asks due) packets
are-asked events due packets are =
    let same : sents_in events ≡ sents_in (events ++ asks due) =
    sym (sents_in-append events (asks due)
    ∙ ap (λ l. sents_in events ++ l) (sents-asked due) ∙ append-nil (sents_in events)) in
    record {
      bytes = are.bytes ∙ ap (map packet_of) same;
      read = subst (λ l. AreSent l packets) same are.read;
    }

-- ---- where calls come

-- where a call comes behind these
behind-is : (look : ℕ) (ended : Bool) (left : ℕ) (events : List Event)
    → is_between_turns true events ≡ ended → left_after look true 0 events ≡ left
    → moment_behind look events ≡ moment_at look ended left
behind-is look ended left events is behind =
    ap (λ e. moment_at look e (left_after look true 0 events)) is
    ∙ ap (moment_at look ended) behind

-- ---- counting turns

more_turns : (events : List Event) (sent : Sent) (ends : Bool) (rest left turns : ℕ)
    → sent.ends_turn ≡ ends → rest + (if ends then 1 else 0) ≡ left
    → left + turns_in events ≡ turns → rest + turns_in (events ++ Played sent ∷ []) ≡ turns
more_turns events sent ends rest left turns same is counted =
    let one : ◌≡◌ {A = ℕ} (if sent.ends_turn then 1 else 0) (if ends then 1 else 0) =
    ap (λ b. if b then 1 else 0) same in
    let all = turns-append events (Played sent ∷ []) in
    omega (arith, one, all, is, counted)

done-cases : (ends : Bool) (rest left : ℕ) → rest ≡ 0 → rest + (if ends then 1 else 0) ≡ left
    → (left ≡ 0 → ⊥) → ends ≡ true
done-cases true rest left none is some = refl
done-cases false rest left none is some = absurd (some (omega (arith, none, is)))

-- a turn that ends leaves one less to come
pub rest_then : (ends : Bool) (rest left : ℕ) → ends ≡ true → rest ≡ left - 1 → (left ≡ 0 → ⊥)
    → rest + (if ends then 1 else 0) ≡ left
rest_then true rest left is less some = not_zero left some less
  where
    not_zero : (n : ℕ) → (n ≡ 0 → ⊥) → rest ≡ n - 1 → rest + 1 ≡ n
    not_zero zero some less = absurd (some refl)
    not_zero (suc n) some less = omega (arith, less)
rest_then false rest left is less some = absurd (cc)

-- a packet that ends no turn leaves as many to come
pub rest_else : (ends : Bool) (rest left : ℕ) → ends ≡ false → rest ≡ left
    → rest + (if ends then 1 else 0) ≡ left
rest_else true rest left is same = absurd (cc)
rest_else false rest left is same = omega (arith, same)

-- ---- one packet

played : (limit size : ℕ) (c : Carousel) (old new : Place) (packet : List ℕ) (ends : Bool)
    → (step : IsStep old packet ends new)
    → Happen limit size c old (Played step.sent ∷ []) c new
played limit size c old new packet ends step = (step.asked, (refl, sym step.place))

are-one : (old new : Place) (packet : List ℕ) (ends : Bool) → (step : IsStep old packet ends new)
    → AreOf (Played step.sent ∷ []) (packet ∷ [])
are-one old new packet ends step =
    record { bytes = ap (λ p. p ∷ []) step.bytes; read = rw step.reads refl }

-- ---- what runs and packets leave

module _ {D : Type 0} where
  -- this was fed, and leads to that
  abbrev pub FedTo : (old new : ServerView D) (start now : State) → Standing → List Command
      → List Bool → Option Refusal → List Event → Standing → Type 0
  FedTo old new start now s commands marks fault events last =
      (fed : HasFed old new start now s commands marks fault events) × (fed.leaves.last ≡ last)

  fed-join : (old mid new : ServerView D) (start between now : State) (s last : Standing)
      (commands others : List Command) (marks rest : List Bool) (fault : Option Refusal)
      (events more : List Event)
      → (first : HasFed old mid start between s commands marks None events)
      → FedTo mid new between now first.leaves.last others rest fault more last
      → FedTo old new start now s (commands ++ others) (marks ++ rest) fault (events ++ more) last
  fed-join old mid new start between now s last commands others marks rest fault events more first
      second =
      let two = second.0 in
      let joined = runs_join old.view mid.view new.view start between now s commands others marks
      rest fault first.layout (first.whole refl) first.leaves two.leaves in
      let d : Standing = first.leaves.last in
      let happened = subst (λ (g : Geometry).
      Happen g.objects g.segment d.carousel (place_in mid d)
      more two.leaves.last.carousel (place_in new two.leaves.last)) first.leaves.after.geometry
      two.happened in (
        record {
          leaves = joined.0;
          whole = λ e. length-append marks rest
              ∙ omega (arith, first.whole refl, two.whole e, length-append commands others);
          layout = two.layout ∙ first.layout;
          accepted = commands_among-append events more
              ∙ ap (λ l. l ++ commands_among more) first.accepted
              ∙ ap (λ l. accepted_commands commands marks ++ l) two.accepted
              ∙ sym (accepted-join commands others marks rest (first.whole refl));
          happened = subst (λ (l : Standing). Happen s.geometry.objects s.geometry.segment
              s.carousel (place_in old s) (events ++ more) l.carousel (place_in new l))
              (sym joined.1)
              (happen-join s.geometry.objects s.geometry.segment s.carousel d.carousel
              two.leaves.last.carousel (place_in old s) (place_in mid d)
              (place_in new two.leaves.last) events more first.happened happened);
          rules = rules-join s.geometry.objects s.geometry.segment s.carousel d.carousel
              (place_in old s) (place_in mid d) events more first.rules first.happened
              (subst (λ (g : Geometry). RulesAreKept g.objects d.carousel more)
              first.leaves.after.geometry two.rules);
        },
        joined.1 ∙ second.1,
      )

  fed-run : (old new : ServerView D) (start now : State) (s : Standing) (fault : Option Refusal)
      (commands : List Command) (marks : List Bool)
      → (run : HasRun old new start now s commands marks fault)
      → FedTo old new start now s commands marks fault
      (map Accepted (accepted_commands commands marks)) run.leaves.last
  fed-run old new start now s fault commands marks run =
      let done : List Command = accepted_commands commands marks in
      let last : Standing = run.leaves.last in (
        record {
          leaves = run.leaves;
          whole = run.whole;
          layout = run.layout;
          accepted = accepted-map done;
          happened = subst (λ (p : Place). Happen s.geometry.objects s.geometry.segment
              s.carousel (place_in old s) (map Accepted done) last.carousel p) (sym run.place)
              (happen-commands s.geometry.objects s.geometry.segment done s.carousel
              last.carousel (place_in old s) run.leaves.after.carousel);
          rules = rules-commands s.geometry.objects done s.carousel run.leaves.rules;
        },
        refl,
      )

  -- nothing but packets
  fed-read : (old new : ServerView D) (start now : State) (s : Standing) (fault : Option Refusal)
      (events : List Event) → IsHonestDisk start → new.view ≡ old.view → now.IsHonest
      → IsUnchanged start now → Holds old.view s start → commands_among events ≡ []
      → Happen s.geometry.objects s.geometry.segment s.carousel (place_in old s) events
      s.carousel (place_in new s)
      → FedTo old new start now s [] [] fault events s
  fed-read old new start now s fault events sound view honest still holds none happened =
      let leaves = reads_leave old.view new.view start now s fault sound view honest still holds in
      let last : leaves.last ≡ s = leaves.marked in (
        record {
          leaves = leaves;
          whole = λ e. refl;
          layout = ap (λ (v : RepositoryView). v.journal.layout) view;
          accepted = none;
          happened = subst (λ (d : Standing). Happen s.geometry.objects s.geometry.segment
              s.carousel (place_in old s) events d.carousel (place_in new d)) (sym last) happened;
          rules = rules-packets s.geometry.objects events s.carousel none
              (rules_kept start.bytes s (sound.images start.bytes sound.bytes).are_bytes
              (holds.each start.bytes sound.bytes).stands);
        },
        last,
      )

  -- packets behind commands
  fed-on : (old mid new : ServerView D) (start between now : State) (s last : Standing)
      (commands : List Command) (marks : List Bool) (events more : List Event)
      → (first : HasFed old mid start between s commands marks None events)
      → FedTo mid new between now first.leaves.last [] [] None more last
      → FedTo old new start now s commands marks None (events ++ more) last
  fed-on old mid new start between now s last commands marks events more first second =
      subst (λ l. FedTo old new start now s l marks None (events ++ more) last)
      (append-nil commands)
      (subst (λ l. FedTo old new start now s (commands ++ []) l None (events ++ more) last)
      (append-nil marks)
      (fed-join old mid new start between now s last commands [] marks [] None events more first
      second))

  -- ---- feeding

  -- what was fed so far: so many turns are left, and so many packets were sent
  pub record SoFar {U : Type 0} (tells : U → U → UpdatePoint → Telling) (how : Manner) (stage : Stage)
      (first last : U) (old new : ServerView D) (start now : State) (s : Standing)
      (left : ℕ) (between_turns : Bool) (until : Option ℕ) (rest count : ℕ)
      (before after : Option (List (List ℕ))) : Type 0 where
    -- what happened so far
    pub events : List Event
    -- the commands that were run, and their marks
    pub commands : List Command
    pub marks : List Bool
    -- this is what was fed, without a fault
    pub fed : HasFed (server_for how old) new start now s commands marks None events
    -- the packets so far
    pub packets : List (List ℕ)
    -- they are what was sent
    pub are : AreOf events packets
    -- each was written in one write
    pub written : Grows before after packets
    -- the update tells of them
    pub told : AreTold tells (look_in how) s.geometry.objects first s.carousel stage events commands
        marks last fed.leaves.last.carousel
    -- whether a turn has ended behind them, or none was begun
    pub ended : is_between_turns true events ≡ between_turns
    -- how many packets of the rest go out before a look may come
    pub behind : left_after (look_in how) true 0 events ≡ rest
    -- the turns to come and those that ended are all
    pub counted : left + turns_in events ≡ how.turns
    -- how many packets were sent
    pub many : length packets ≡ count
    -- where no turn is to come, none is under way
    pub done : left ≡ 0 → between_turns ≡ true
    -- until so many packets are sent the directory is not asked for
    pub often : 0 < how.directory → OftenUpTo how.directory between_turns until events

  -- feeding that begins has sent nothing
  pub fed_none : {U : Type 0} (tells : U → U → UpdatePoint → Telling) (how : Manner) (first : U)
      (old mid : ServerView D) (start now : State) (s : Standing)
      (contents : Option (List (List ℕ)))
      → mid.view ≡ old.view → place_in mid s ≡ place_in (server_for how old) s
      → IsHonestDisk start → now.IsHonest → IsUnchanged start now → Holds old.view s start
      → SoFar tells how Ready first first old mid start now s how.turns true (Some 0) 0 0 contents
      contents
  fed_none tells how first old mid start now s contents view same sound honest still holds =
      let fed = fed-read (server_for how old) mid start now s None [] sound view honest still holds
      refl (refl, sym same) in
      record {
        events = [];
        commands = [];
        marks = [];
        fed = fed.0;
        packets = [];
        are = are-none;
        written = grows_nil contents;
        told = subst (λ (d : Standing). AreTold tells (look_in how) s.geometry.objects first
            s.carousel Ready [] [] [] first d.carousel) (sym fed.1) no_call;
        ended = refl;
        behind = refl;
        counted = omega arith;
        many = refl;
        done = λ e. refl;
        often = λ asked. often-none how.directory;
      }

  module _ {U : Type 0} {tells : U → U → UpdatePoint → Telling} {how : Manner} {stage : Stage}
      {first since : U} {old mid : ServerView D} {start between : State} {s : Standing}
      {left : ℕ} {between_turns : Bool} {until : Option ℕ} {rest count : ℕ}
      {before after : Option (List (List ℕ))}
      (so_far : SoFar tells how stage first since old mid start between s left between_turns until
      rest count before after)
    where
      abbrev look : ℕ
      look = look_in how

      abbrev every : ℕ
      every = how.directory

      abbrev from : ServerView D
      from = server_for how old

      -- where the update comes now
      abbrev moment : UpdatePoint
      moment = moment_at look between_turns rest

      -- what it tells so far, up to a carousel
      abbrev Told : Stage → List Event → List Command → List Bool → U → Carousel → Type 0
      Told stage events commands marks last found =
          AreTold tells look s.geometry.objects first s.carousel stage events commands marks last
          found

      -- up to this stage
      so_far_told : (here : Stage) → stage ≡ here
          → Told here so_far.events so_far.commands so_far.marks since
          so_far.fed.leaves.last.carousel
      so_far_told here is = subst (λ t. Told t so_far.events so_far.commands so_far.marks since
          so_far.fed.leaves.last.carousel) is so_far.told

      -- all turns were fed, or too many packets
      pub fed_all : stage ≡ Ready → (left ≡ 0) ⊎ (count ≡ 18446744073709551615)
          → Feeds tells how None first since old mid start between s before after
      fed_all ready end = record {
        stage = Ready;
        events = so_far.events;
        commands = so_far.commands;
        marks = so_far.marks;
        fed = so_far.fed;
        told = so_far_told Ready ready;
        packets = so_far.packets;
        are = so_far.are;
        ends = all_ended end;
        often = λ asked. often-all every between_turns until so_far.events (so_far.often asked);
      }
        where
          all_ended : (left ≡ 0) ⊎ (count ≡ 18446744073709551615)
              → EndsFeed how.turns so_far.events so_far.packets before after None Ready
          all_ended (inl none) = all_turns
              (let all = so_far.counted in omega (arith, none, all))
              (so_far.ended ∙ so_far.done none) so_far.written
          all_ended (inr many) = all_numbers (so_far.many ∙ many) so_far.written

      -- an update more
      module _ {up : ServerView D} {then_state : State} {last : U} {fault : Option Refusal}
          (update : IsUpdating (tells since last moment) mid up between then_state
          so_far.fed.leaves.last fault) where
        abbrev done_by : List Command
        done_by = accepted_commands update.commands update.marks

        abbrev updated_events : List Event
        updated_events = so_far.events ++ map Accepted done_by

        abbrev updated_commands : List Command
        updated_commands = so_far.commands ++ update.commands

        abbrev updated_marks : List Bool
        updated_marks = so_far.marks ++ update.marks

        -- an update behind what was fed, as one run of all commands
        updated_fed : FedTo from up start then_state s updated_commands updated_marks fault
            updated_events update.run.leaves.last
        updated_fed = fed-join from mid up start between then_state s update.run.leaves.last
            so_far.commands update.commands so_far.marks update.marks fault so_far.events
            (map Accepted done_by) so_far.fed
            (fed-run mid up between then_state so_far.fed.leaves.last fault update.commands
            update.marks update.run)

        -- it sends no packets
        updated_are : AreOf updated_events so_far.packets
        updated_are = are-more so_far.events done_by so_far.packets so_far.are

        -- and it tells of its commands
        updated_told : stage ≡ Ready → Told (Called fault) updated_events updated_commands
            updated_marks last updated_fed.0.leaves.last.carousel
        updated_told ready =
            let found : Standing = so_far.fed.leaves.last in
            let next : Standing = update.run.leaves.last in
            let made : carousel_after found.carousel s.geometry.objects done_by
            ≡ Some next.carousel =
            subst (λ (g : Geometry). carousel_after found.carousel g.objects done_by
            ≡ Some next.carousel) so_far.fed.leaves.after.geometry
            update.run.leaves.after.carousel in
            let tells_here = subst (λ m. tells since last m found.carousel update.commands
            update.marks fault)
            (sym (behind-is look between_turns rest so_far.events so_far.ended so_far.behind))
            update.told in
            subst (λ (d : Standing). Told (Called fault) updated_events updated_commands
            updated_marks last d.carousel) (sym updated_fed.1)
            (one_call so_far.events so_far.commands update.commands so_far.marks update.marks since
            last found.carousel next.carousel fault (so_far_told Ready ready) tells_here
            update.run.whole made)

        updated_ended : is_between_turns true updated_events ≡ between_turns
        updated_ended = ended-append true so_far.events (map Accepted done_by)
            ∙ ended-map (is_between_turns true so_far.events) done_by ∙ so_far.ended

        updated_behind : left_after look true 0 updated_events ≡ rest
        updated_behind = left-append look true 0 so_far.events (map Accepted done_by)
            ∙ left-map look (is_between_turns true so_far.events)
            (left_after look true 0 so_far.events) done_by ∙ so_far.behind

        -- it asks for no directory
        updated_often : 0 < every → OftenUpTo every between_turns until updated_events
        updated_often asked =
            often-accepted every between_turns until so_far.events done_by (so_far.often asked)

        -- it ends no turn
        updated_turns : left + turns_in updated_events ≡ how.turns
        updated_turns = omega (
          arith,
          turns-append so_far.events (map Accepted done_by),
          turns-map done_by,
          so_far.counted,
        )

      -- feeding that a fault of an update ends, and not of a write
      pub update_fault : {up : ServerView D} {then_state : State} {last : U} {refusal : Refusal}
          → stage ≡ Ready
          → IsUpdating (tells since last moment) mid up between then_state
          so_far.fed.leaves.last (Some refusal)
          → refusal ≢ WriteFault
          → Feeds tells how (Some refusal) first last old up start then_state s before after
      update_fault {up} {then_state} {last} {refusal} ready update other = record {
        stage = Called (Some refusal);
        events = updated_events update;
        commands = updated_commands update;
        marks = updated_marks update;
        fed = (updated_fed update).0;
        told = updated_told update ready;
        packets = so_far.packets;
        are = updated_are update;
        ends = of_call refusal other so_far.written;
        often = λ asked. often-all every between_turns until (updated_events update)
            (updated_often update asked);
      }

      -- what was fed so far, with an update that had no fault
      pub updated : {up : ServerView D} {then_state : State} {last : U}
          → stage ≡ Ready → IsUpdating (tells since last moment) mid up between then_state
          so_far.fed.leaves.last None
          → SoFar tells how (Called None) first last old up start then_state s left between_turns
          until rest count before after
      updated {up} {then_state} {last} ready update = record {
        events = updated_events update;
        commands = updated_commands update;
        marks = updated_marks update;
        fed = (updated_fed update).0;
        packets = so_far.packets;
        are = updated_are update;
        written = so_far.written;
        told = updated_told update ready;
        ended = updated_ended update;
        behind = updated_behind update;
        counted = updated_turns update;
        many = so_far.many;
        done = so_far.done;
        often = updated_often update;
      }

      abbrev t : Standing
      t = so_far.fed.leaves.last

      held : Holds mid.view t between
      held = so_far.fed.leaves.going refl

      -- a packet more
      module _ (new : ServerView D) {now : State} (sound : IsHonestDisk between)
          (view : new.view ≡ mid.view) (honest : now.IsHonest)
          (still : IsUnchanged between now) where
        -- these were fed behind what was fed so far, and no command
        more_fed : (more : List Event) → commands_among more ≡ []
            → Happen t.geometry.objects t.geometry.segment t.carousel (place_in mid t) more
            t.carousel (place_in new t)
            → FedTo from new start now s so_far.commands so_far.marks None (so_far.events ++ more) t
        more_fed more none happened = fed-on from mid new start between now s t so_far.commands
            so_far.marks so_far.events more so_far.fed
            (fed-read mid new between now t None more sound view honest still held none happened)

        module _ {packet : List ℕ} {ends : Bool}
            (step : IsStep (place_in mid t) packet ends (place_in new t)) where
          abbrev sent_events : List Event
          sent_events = so_far.events ++ Played step.sent ∷ []

          sent_fed : FedTo from new start now s so_far.commands so_far.marks None sent_events t
          sent_fed = more_fed (Played step.sent ∷ []) refl
              (played t.geometry.objects t.geometry.segment t.carousel (place_in mid t)
              (place_in new t) packet ends step)

          sent_are : AreOf sent_events (so_far.packets ++ packet ∷ [])
          sent_are = are-append so_far.events (Played step.sent ∷ []) so_far.packets (packet ∷ [])
              so_far.are (are-one (place_in mid t) (place_in new t) packet ends step)

          sent_told : stage ≡ Called None → Told Ready sent_events so_far.commands so_far.marks
              since sent_fed.0.leaves.last.carousel
          sent_told called =
              subst (λ (d : Standing). Told Ready sent_events so_far.commands so_far.marks since
              d.carousel) (sym sent_fed.1)
              (one_played so_far.events step.sent so_far.commands so_far.marks since t.carousel
              (so_far_told (Called None) called))

        -- the directory asked for, or not
        module _ (due : Bool) (asked : place_in new t
            ≡ (if due then hear_directory (place_in mid t) else place_in mid t))
            (n : ℕ) (at : until ≡ Some n) (is_so : 0 < every → due ≡ is_due between_turns n) where
          abbrev asked_for : List Event
          asked_for = if due then Asked ∷ [] else []

          asked_fed : FedTo from new start now s so_far.commands so_far.marks None
              (so_far.events ++ asked_for) t
          asked_fed = more_fed asked_for (commands-asked due)
              (happen-asked t.geometry.objects t.geometry.segment t.carousel
              (place_in mid t) (place_in new t) due asked)

          told-asked : (d : Bool)
              → Told (Called None) so_far.events so_far.commands so_far.marks since t.carousel
              → Told (Called None) (so_far.events ++ asks d) so_far.commands so_far.marks since
              t.carousel
          told-asked true is =
              one_asked so_far.events so_far.commands so_far.marks since t.carousel is
          told-asked false is = subst (λ l. Told (Called None) l so_far.commands so_far.marks since
              t.carousel) (sym (append-nil so_far.events)) is

          asked_told : stage ≡ Called None → Told (Called None) (so_far.events ++ asked_for)
              so_far.commands so_far.marks since asked_fed.0.leaves.last.carousel
          asked_told called =
              subst (λ (d : Standing). Told (Called None) (so_far.events ++ asked_for)
              so_far.commands so_far.marks since d.carousel) (sym asked_fed.1)
              (told-asked due (so_far_told (Called None) called))

          pub asked_on : stage ≡ Called None → SoFar tells how (Called None) first since old new
              start now s left between_turns (left_for due n) rest count before after
          asked_on called = record {
            events = so_far.events ++ asked_for;
            commands = so_far.commands;
            marks = so_far.marks;
            fed = asked_fed.0;
            packets = so_far.packets;
            are = are-asked so_far.events due so_far.packets so_far.are;
            written = so_far.written;
            told = asked_told called;
            ended = ended-append true so_far.events asked_for
                ∙ ended-asked (is_between_turns true so_far.events) due ∙ so_far.ended;
            behind = left-append look true 0 so_far.events asked_for
                ∙ left-asked look (is_between_turns true so_far.events)
                (left_after look true 0 so_far.events) due ∙ so_far.behind;
            counted = omega (
              arith,
              turns-append so_far.events asked_for,
              turns-asked due,
              so_far.counted,
            );
            many = so_far.many;
            done = so_far.done;
            often = λ some. often-asked every n between_turns so_far.events due (is_so some)
                (subst (λ u. OftenUpTo every between_turns u so_far.events) at (so_far.often some));
          }

        -- where no packet was made, nothing more was fed
        unsent_fed : place_in new t ≡ place_in mid t
            → FedTo from new start now s so_far.commands so_far.marks None (so_far.events ++ []) t
        unsent_fed same = more_fed [] refl (refl, sym same)

        -- and nothing more is told
        unsent_told : (same : place_in new t ≡ place_in mid t) → stage ≡ Called None
            → Told (Called None) (so_far.events ++ []) so_far.commands so_far.marks since
            (unsent_fed same).0.leaves.last.carousel
        unsent_told same called =
            subst (λ (d : Standing). Told (Called None) (so_far.events ++ []) so_far.commands
            so_far.marks since d.carousel) (sym (unsent_fed same).1)
            (subst (λ l. Told (Called None) l so_far.commands so_far.marks since t.carousel)
            (sym (append-nil so_far.events)) (so_far_told (Called None) called))

        -- the directory was asked for, if it was due
        module _ (n : ℕ) (due : Bool) (at : until ≡ left_for due n)
            (is_so : 0 < every → due ≡ is_due between_turns n) where
          often_now : 0 < every → OftenUpTo every between_turns (left_for due n) so_far.events
          often_now asked =
              subst (λ u. OftenUpTo every between_turns u so_far.events) at (so_far.often asked)

          send_fault-cases : {last : Option (List (List ℕ))} (refusal : Refusal)
              → stage ≡ Called None
              → SendsPacket (Err refusal) (place_in mid t) (place_in new t) after last
              → Feeds tells how (Some refusal) first since old new start now s before last
          send_fault-cases {last} refusal called (one.whole packet e is step w) =
              absurd (not_fine e refusal (sym is))
          send_fault-cases {last} refusal called (one.short packet e m is step lt w) = record {
            stage = Ready;
            events = sent_events step;
            commands = so_far.commands;
            marks = so_far.marks;
            fed = (sent_fed step).0;
            told = sent_told step called;
            packets = so_far.packets ++ packet ∷ [];
            are = sent_are step;
            ends = subst (λ r. EndsFeed how.turns (sent_events step) (so_far.packets ++ packet ∷ [])
                before last (Some r) Ready) (sym (same_err refusal WriteFault is))
                (of_write so_far.packets packet m refl lt
                (grows_trans before after last so_far.packets (take m packet ∷ []) so_far.written w));
            often = λ asked. often-cut every n between_turns due so_far.events step.sent
                (often_now asked) (is_so asked);
          }
          send_fault-cases {last} refusal called (one.none r other is same w) = record {
            stage = Called None;
            events = so_far.events ++ [];
            commands = so_far.commands;
            marks = so_far.marks;
            fed = (unsent_fed same).0;
            told = unsent_told same called;
            packets = so_far.packets;
            are = subst (λ l. AreOf l so_far.packets) (sym (append-nil so_far.events)) so_far.are;
            ends = of_packet refusal (λ e. other (sym (same_err refusal r is) ∙ e))
                (grows_kept before after last so_far.packets so_far.written w);
            often = λ asked. so_far.often asked [];
          }

          -- feeding that a fault of a packet or of its write ends
          pub send_fault : {last : Option (List (List ℕ))} (refusal : Refusal)
              → stage ≡ Called None → ((d : Standing) → Holds mid.view d between
              → SendsPacket (Err refusal) (place_in mid d) (place_in new d) after last)
              → Feeds tells how (Some refusal) first since old new start now s before last
          send_fault refusal called sends = send_fault-cases refusal called (sends t held)

          -- one that was written whole
          module _ (called : stage ≡ Called None) (some : left ≡ 0 → ⊥) (ends : Bool) (fewer : ℕ)
              (is_fewer : fewer + (if ends then 1 else 0) ≡ left) (then_rest : ℕ)
              (is_rest : (sent : Sent) → place_in new t ≡ sent.place
              → left_behind look between_turns rest sent ≡ then_rest) (next : ℕ)
              (anew : (d : Standing) → next ≡ (if due then pause every (place_in new d) else n - 1))
              {last : Option (List (List ℕ))} where
            sent_on-cases : SendsPacket (Ok ends) (place_in mid t) (place_in new t) after last
                → SoFar tells how Ready first since old new start now s fewer ends (Some next)
                then_rest (count + 1) before last
            sent_on-cases (one.whole packet e is step w) =
                let same : step.sent.ends_turn ≡ ends = sym step.ends ∙ sym (same_ok ends e is) in
                record {
                  events = sent_events step;
                  commands = so_far.commands;
                  marks = so_far.marks;
                  fed = (sent_fed step).0;
                  packets = so_far.packets ++ packet ∷ [];
                  are = sent_are step;
                  written = grows_trans before after last so_far.packets (packet ∷ [])
                      so_far.written w;
                  told = sent_told step called;
                  ended = ended-append true so_far.events (Played step.sent ∷ []) ∙ same;
                  behind = left-append look true 0 so_far.events (Played step.sent ∷ [])
                      ∙ ap (λ e. left_behind look e (left_after look true 0 so_far.events) step.sent)
                      so_far.ended
                      ∙ ap (λ m. left_behind look between_turns m step.sent) so_far.behind
                      ∙ is_rest step.sent step.place;
                  counted = more_turns so_far.events step.sent ends fewer left how.turns same
                      is_fewer so_far.counted;
                  many = length-append so_far.packets (packet ∷ []) ∙ omega (arith, so_far.many);
                  done = λ none. done-cases ends fewer left none is_fewer some;
                  often = λ asked. often-sent every n next between_turns ends due so_far.events
                      step.sent (often_now asked) (is_so asked) same
                      (anew t ∙ ap (λ p. if due then pause every p else n - 1) step.place);
                }
            sent_on-cases (one.short packet e m is step lt w) = absurd (not_fine ends _ is)
            sent_on-cases (one.none refusal other is same w) = absurd (not_fine ends refusal is)

            -- one more packet, which was made and written
            pub sent_on : ((d : Standing) → Holds mid.view d between
                → SendsPacket (Ok ends) (place_in mid d) (place_in new d) after last)
                → SoFar tells how Ready first since old new start now s fewer ends (Some next)
                then_rest (count + 1) before last
            sent_on sends = sent_on-cases (sends t held)

-- ---- continuity

-- a changed turn is a step
abbrev change_step : Turn → Place → Step
change_step turn place = if is_some place.follows then Follow turn else NewTurn turn

change-cases : (turn : Turn) (place : Place) (steps : List Step) (b : Bool)
    → sent_by place ((if b then Follow turn else NewTurn turn) ∷ steps)
    ≡ sent_by (if b then follow turn place else change_turn turn place) steps
unfolding sent_by
change-cases turn place steps true = refl
change-cases turn place steps false = refl

change_sent : (turn : Turn) (place : Place) (steps : List Step)
    → sent_by place (change_step turn place ∷ steps) ≡ sent_by (changed turn place) steps
unfolding changed
change_sent turn place steps = change-cases turn place steps (is_some place.follows)

steps-of : (limit size : ℕ) (c last : Carousel) (place new : Place) (events : List Event)
    → Happen limit size c place events last new
    → (steps : List Step) × (sent_by place steps ≡ Some (sents_in events, new))
unfolding sent_by
steps-of limit size c last place new [] is = ([], ap (λ (p : Place). Some ([], p)) is.1)
steps-of limit size c last place new (Played sent ∷ events) is =
    let rest = steps-of limit size c last sent.place new events is.1 in
    (Request ∷ rest.0, rw (is.0, rest.1) refl)
steps-of limit size c last place new (Accepted command ∷ events) is =
    let turn = turn_of_carousel is.0 size in
    let rest = steps-of limit size is.0 last (changed turn place) new events is.2 in
    (change_step turn place ∷ rest.0, change_sent turn place rest.0 ∙ rest.1)
steps-of limit size c last place new (Asked ∷ events) is =
    let rest = steps-of limit size c last (hear_directory place) new events is in
    (Directory ∷ rest.0, rest.1)

-- of a server just opened all packets that are fed have their continuity indexes
pub continuous : FedPacketsAreContinuous
continuous limit size c last address room cursor turn follows newest_first events new packets some happened are =
    let steps = steps-of limit size c last
    (start_place address room size turn cursor follows newest_first) new events happened in
    start-continuous address room size turn cursor follows newest_first steps.0 (sents_in events) new packets
    some steps.1 are.read
