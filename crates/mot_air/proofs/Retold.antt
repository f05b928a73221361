-- What an update tells of playing, told of what stands beside the disk.
use Rattle.std.proofs.Common.{◌≡◌, ◌∙◌, ℕ, Bool, false, List, [], Option, Some, None, ap, inl, inr}
use Rattle.std.proofs.Common.{refl, subst, sym}
use Rattle.disk_model.specs.Disk.{State}
use Rattle.mot_air.specs.Playing.{HasAired, Plays, Tale, look_of_feed, tale_of}
use Rattle.mot_feed.specs.declared.manner.Manner.{Manner}
use Rattle.mot_air.specs.Inner.Beside.{SourcesOf, beside, tells_answered, tells_lines_of}
use Rattle.mot_air.specs.Inner.Beside.{tells_reported}
use Rattle.mot_air.specs.Inner.Fed.{Fed, IsEndOf, disk_of, ending_of}
use Rattle.mot_air.specs.Telling.{Sources, no_looks, tale_with, tells_alone, tells_lines}
use Rattle.mot_feed_lines.specs.Answering.{TellsBetween, TellsInTurn, TellsOnTime, late_behind}
use Rattle.mot_feed_lines.specs.Answering.TellsBetween.{other_alone, then_lines}
use Rattle.mot_feed_lines.specs.declared.lines.Lines.{Lines}
use Rattle.mot_feed_lines.specs.declared.reported.WatchedUpdate.{WatchedUpdate}
use Rattle.mot_folder.specs.Looked.{LooksSoFar, TellsLooks, TellsWatch, Watch}
use Rattle.mot_update.specs.declared.ended.Ended.{Ended}
use Rattle.mot_line_folder.specs.Spool.{SpoolView}
use Rattle.mot_line_folder.specs.Spooling.{GaveLines}
use Rattle.mot_playout.specs.Attempts.{fault_of}
use Rattle.mot_feed.specs.Feeding.{AreTold, Event, Stage}
use Rattle.mot_feed.specs.Feeding.AreTold.{no_call, one_asked, one_call, one_played}
use Rattle.mot_feed.specs.Feeding.Stage.{Ready}
use Rattle.mot_journal.specs.Image.{Standing}
use Rattle.mot_numbers.specs.declared.refusal.Refusal.{Refusal}
use Rattle.mot_objects.specs.Carousel.{Carousel}
use Rattle.mot_objects.specs.declared.command.Command.{Command}
use Rattle.mot_shelf.specs.View.{FolderView}
use Rattle.mot_update.specs.HasRun.{Telling}
use Rattle.mot_update.specs.declared.moment.UpdatePoint.{UpdatePoint}

-- what one update tells another does of what is seen of it, where something stays
pub told_as : {U V : Type 0} {tells : U → U → UpdatePoint → Telling}
    (then_tells : V → V → UpdatePoint → Telling) (view : U → V) (Stays : U → Type 0)
    → ((u v : U) (moment : UpdatePoint) (c : Carousel) (commands : List Command) (marks : List Bool)
    (fault : Option Refusal) → Stays u → tells u v moment c commands marks fault
    → Stays v × then_tells (view u) (view v) moment c commands marks fault)
    → {look limit : ℕ} {first : U} {c : Carousel} → Stays first
    → (stage : Stage) (events : List Event) (commands : List Command) (marks : List Bool)
    (last : U) (made : Carousel)
    → AreTold tells look limit first c stage events commands marks last made
    → Stays last
    × AreTold then_tells look limit (view first) c stage events commands marks (view last) made
told_as then_tells view Stays on stays stage events commands marks last made no_call =
    (stays, no_call)
told_as then_tells view Stays on stays stage events commands marks last made
    (one_call before earlier these earlier_marks so_marked mid new found next fault so_far tells
    whole leads) =
    let was = told_as then_tells view Stays on stays _ before earlier earlier_marks mid found so_far
    in
    let one = on mid new _ found these so_marked fault was.0 tells in (
      one.0,
      one_call before earlier these earlier_marks so_marked (view mid) (view new) found next fault
          was.1 one.1 whole leads,
    )
told_as then_tells view Stays on stays stage events commands marks last made
    (one_asked before these so_marked mid found so_far) =
    let was = told_as then_tells view Stays on stays _ before these so_marked mid found so_far in
    (was.0, one_asked before these so_marked (view mid) found was.1)
told_as then_tells view Stays on stays stage events commands marks last made
    (one_played before sent these so_marked mid found so_far) =
    let was = told_as then_tells view Stays on stays _ before these so_marked mid found so_far in
    (was.0, one_played before sent these so_marked (view mid) found was.1)

-- one tale for the other
abbrev pub Retells : Tale → Tale → Type 0
Retells tale other = (limit : ℕ) (c : Carousel) (stage : Stage) (events : List Event)
    (commands : List Command) (marks : List Bool) (made : Carousel)
    → tale limit c stage events commands marks made
    → other limit c stage events commands marks made

module _ (tale other : Tale) (retells : Retells tale other) (how : Manner) where
  aired : (s : Standing) (stage : Stage) (events : List Event) (packets : List (List ℕ))
      (start now : State) → HasAired s tale how stage events packets start now
      → HasAired s other how stage events packets start now
  aired s stage events packets start now is = record {
    last = is.last;
    place = is.place;
    happened = is.happened;
    commands = is.commands;
    marks = is.marks;
    told = retells s.geometry.objects s.carousel stage events is.commands is.marks is.last.carousel
        is.told;
    accepted = is.accepted;
    after = is.after;
    stands = is.stands;
    leaves = is.leaves;
    are = is.are;
    continuous = is.continuous;
    turns_read = is.turns_read;
    often = is.often;
    listens = is.listens;
    nobody_starves = is.nobody_starves;
  }

  pub plays_as : (ending : Option Refusal) (before after : Option (List (List ℕ)))
      (start now : State) → Plays tale how ending before after start now
      → Plays other how ending before after start now
  plays_as ending before after start now is = record {
    keeps = is.keeps;
    came = elim is.came [
      | inl none ↦ inl (
        none.0,
        (none.1.0, λ limit c. retells limit c Ready [] [] [] c (none.1.1 limit c)),
      )
      | inr done ↦ inr (
        done.0,
        done.1,
        λ s honest all. let writes = done.2 s honest all in record {
          stage = writes.stage;
          events = writes.events;
          packets = writes.packets;
          played = aired s writes.stage writes.events writes.packets start now writes.played;
          ends = writes.ends;
        },
      )
    ];
  }

-- ---- looks and lines

-- what is told of looks of one watch
watch_on : (w now next : Watch) (moment : UpdatePoint) (before after : LooksSoFar) (c : Carousel)
    (commands : List Command) (marks : List Bool) (fault : Option Refusal) → now ≡ w
    → TellsWatch now next moment before after c commands marks fault
    → (next ≡ w) × TellsLooks w moment before after c commands marks fault
watch_on w now next moment before after c commands marks fault stays tells = (
  tells.0 ∙ stays,
  subst (λ (x : Watch). TellsLooks x moment before after c commands marks fault) stays tells.1,
)

-- what stands between lines
between_on : {V : Type 0} {Gives : V → V → List ℕ → Type 0} {other then_other : Telling}
    {P : Type 0} {left : ℕ} {hand then_hand : List ℕ} {earlier later : V} {c : Carousel}
    → ((commands : List Command) (marks : List Bool) (fault : Option Refusal)
    → other c commands marks fault → P × then_other c commands marks fault)
    → (commands : List Command) (marks : List Bool) (fault : Option Refusal)
    → TellsBetween Gives left hand then_hand earlier later other c commands marks fault
    → P × TellsBetween Gives left hand then_hand earlier later then_other c commands marks fault
between_on on commands marks fault (other_alone these so_marked broken undue kept none tells) =
    let one = on these so_marked broken tells in
    (one.0, other_alone these so_marked broken undue kept none one.1)
between_on on commands marks fault (then_lines these others so_marked rest broken due tells lines) =
    let one = on these so_marked None tells in
    (one.0, then_lines these others so_marked rest broken due one.1 lines)

-- calls between which so many come
in_turn : (between : ℕ) {V : Type 0} {Gives : V → V → List ℕ → Type 0} {other then_other : Telling}
    {P : Type 0} {left then_left : ℕ} {hand then_hand : List ℕ} {earlier later : V} {c : Carousel}
    {commands : List Command} {marks : List Bool} {fault : Option Refusal}
    → ((commands : List Command) (marks : List Bool) (fault : Option Refusal)
    → other c commands marks fault → P × then_other c commands marks fault)
    → TellsInTurn Gives between left then_left hand then_hand earlier later other c commands marks fault
    → P × TellsInTurn Gives between left then_left hand then_hand earlier later then_other c commands
    marks fault
in_turn between {commands = commands} {marks = marks} {fault = fault} on tells =
    let one = between_on on commands marks fault tells.1 in (one.0, (tells.0, one.1))

-- calls that go on keep how many come between two that read
on_time : {V : Type 0} {Gives : V → V → List ℕ → Type 0} {other : Telling}
    {between now then left then_left : ℕ} {hand then_hand : List ℕ} {earlier later : V}
    {c : Carousel} {commands : List Command} {marks : List Bool} {fault : Option Refusal}
    → now ≡ between
    → TellsOnTime Gives now then left then_left hand then_hand earlier later other c commands marks fault
    → (then ≡ between) × TellsInTurn Gives between left then_left hand then_hand earlier later other c
    commands marks fault
on_time {left = left} {then_left = then_left} {fault = fault} stays tells = (
  tells.0 ∙ stays,
  (
    subst (λ (n : ℕ). fault ≡ None → then_left ≡ late_behind n left) stays tells.1.0,
    tells.1.1,
  ),
)

-- ---- any update, of what stands beside the disk

-- an update that is watched
pub reported_retold : {U W : Type 0} (tells : U → U → UpdatePoint → Telling) (how : Manner)
    (first last : WatchedUpdate U W) (update : U) → update ≡ last.update
    → Retells (tale_of (tells_reported tells) how first last) (tale_of tells how first.update update)
reported_retold {U} {W} tells how first last update is limit c stage events commands marks made told =
    let see : WatchedUpdate U W → U = λ r. r.update in
    let one = told_as tells see (λ r. Unit {0})
    (λ u v moment found these so_marked fault stays tale. (tt, tale)) tt stage events commands marks
    last made told in
    subst (λ (u : U). AreTold tells (look_of_feed how) limit (see first) c stage events commands marks
    u made) (sym is) one.1

-- lines, and the update behind which they are answered
abbrev pub seen : {R U V W : Type 0} → Lines R U W → (R → V) → SourcesOf U V
seen l see = record {
  update = l.reported.update;
  late = l.left;
  lines = see l.reader;
  hand = l.intake.hand;
}

begins : {U V : Type 0} (update so : U) (late : ℕ) (lines at : V) (hand kept : List ℕ)
    → update ≡ so → late ≡ 0 → lines ≡ at → hand ≡ kept
    → record { update = update; late = late; lines = lines; hand = hand } ≡ beside so at kept
begins {U} {V} update so late lines at hand kept is due unread same =
    ap (λ (u : U). record { update = u; late = late; lines = lines; hand = hand }) is
    ∙ ap (λ n. record { update = so; late = n; lines = lines; hand = hand }) due
    ∙ ap (λ (l : V). record { update = so; late = 0; lines = l; hand = hand }) unread
    ∙ ap (beside so at) same

module _ {R U V W : Type 0} (first last : Lines R U W) (Gives : V → V → List ℕ → Type 0)
    (see : R → V) where
  pub answered_retold : (tells : U → U → UpdatePoint → Telling) (how : Manner) (between : ℕ) (update : U)
      (at : V) (hand : List ℕ) → first.between ≡ between → first.left ≡ 0 → see first.reader ≡ at
      → first.intake.hand ≡ hand → first.reported.update ≡ update
      → Retells (tale_of (tells_answered Gives see tells) how first last)
      (tale_of (tells_lines_of Gives between tells) how (beside update at hand) (seen last see))
  answered_retold tells how between update at hand apart due unread kept is limit c stage events
      commands marks made told =
      let one = told_as (tells_lines_of Gives between tells) (λ l. seen l see)
      (λ l. l.between ≡ between)
      (λ u v moment found these so_marked fault stays tale. on_time stays tale)
      apart stage events commands marks last made told in
      subst (λ (b : SourcesOf U V). AreTold (tells_lines_of Gives between tells)
      (look_of_feed how) limit b c stage events commands marks (seen last see) made)
      (begins first.reported.update update first.left (see first.reader) at first.intake.hand hand
      is due unread kept) one.1

-- In these what stands beside the disk was first so.
module _ {U : Type 0} (how : Manner) (update : U) (folder : FolderView) (lines : SpoolView) where
  module _ (at : U → Watch) (looks : U → LooksSoFar) (w : Watch) (refused : Bool)
      (begun : at update ≡ w) (none : looks update ≡ no_looks folder) where
    abbrev TellsThese : U → U → UpdatePoint → Telling
    TellsThese u v moment = TellsWatch (at u) (at v) moment (looks u) (looks v)

    -- looks alone
    pub looks_retold : (last : U) → (looks last).refused ≡ refused
        → Retells (tale_of TellsThese how update last)
        (tale_with (Some w) None how refused folder (looks last).folder lines lines)
    looks_retold last any limit c stage events commands marks made told =
        let see : U → Sources =
        λ u. record { looks = looks u; late = 0; lines = lines; hand = [] } in
        let is = told_as (tells_alone (Some w)) see (λ u. at u ≡ w)
        (λ u v moment found these so_marked fault stays tale.
        let one = watch_on w (at u) (at v) moment (looks u) (looks v) found these so_marked fault
        stays tale in (one.0, (refl, one.1)))
        begun stage events commands marks last made told in (
          see last,
          record { looked = refl; any = any; read = refl },
          subst (λ (b : Sources). AreTold (tells_alone (Some w)) (look_of_feed how) limit b c
              stage events commands marks (see last) made)
              (ap (λ (l : LooksSoFar). record { looks = l; late = 0; lines = lines; hand = [] }) none)
              is.1,
        )

    -- looks and lines
    pub lines_retold : (between : ℕ) (hand : List ℕ) (last : SourcesOf U SpoolView)
        → (looks last.update).refused ≡ refused → Retells
        (tale_of (tells_lines_of GaveLines between TellsThese) how (beside update lines hand) last)
        (tale_with (Some w) (Some (hand, between)) how refused folder (looks last.update).folder
        lines last.lines)
    lines_retold between hand last any limit c stage events commands marks made told =
        let see : SourcesOf U SpoolView → Sources = λ b.
        record { looks = looks b.update; late = b.late; lines = b.lines; hand = b.hand } in
        let is = told_as (tells_lines between (Some w)) see (λ b. at b.update ≡ w)
        (λ u v moment found these so_marked fault stays tale.
        in_turn between (λ those so_accepted up one.
        watch_on w (at u.update) (at v.update) moment (looks u.update) (looks v.update) found those
        so_accepted up stays one) tale)
        begun stage events commands marks last made told in (
          see last,
          record { looked = refl; any = any; read = refl },
          subst (λ (b : Sources). AreTold (tells_lines between (Some w)) (look_of_feed how)
              limit b c stage events commands marks (see last) made)
              (ap (λ (l : LooksSoFar). record { looks = l; late = 0; lines = lines; hand = hand }) none)
              is.1,
        )

  module _ {refused : Bool} (fine : false ≡ refused) where
    abbrev TellsNone : U → U → UpdatePoint → Telling
    TellsNone u v moment c commands marks fault = commands ≡ []

    -- no looks
    pub none_retold : (last : U) → Retells (tale_of TellsNone how update last)
        (tale_with None None how refused folder folder lines lines)
    none_retold last limit c stage events commands marks made told =
        let see : U → Sources =
        λ u. record { looks = no_looks folder; late = 0; lines = lines; hand = [] } in
        let is = told_as (tells_alone None) see (λ u. Unit {0})
        (λ u v moment found these so_marked fault stays tale. (tt, (refl, (refl, tale))))
        tt stage events commands marks last made told in
        (see last, record { looked = refl; any = fine; read = refl }, is.1)

    -- lines alone
    pub lines_alone : (between : ℕ) (hand : List ℕ) (last : SourcesOf U SpoolView) → Retells
        (tale_of (tells_lines_of GaveLines between TellsNone) how (beside update lines hand) last)
        (tale_with None (Some (hand, between)) how refused folder folder lines last.lines)
    lines_alone between hand last limit c stage events commands marks made told =
        let see : SourcesOf U SpoolView → Sources = λ b.
        record { looks = no_looks folder; late = b.late; lines = b.lines; hand = b.hand } in
        let is = told_as (tells_lines between None) see (λ b. Unit {0})
        (λ u v moment found these so_marked fault stays tale.
        in_turn between {P = Unit {0}} (λ those so_accepted up one. (tt, (refl, one))) tale)
        tt stage events commands marks last made told in
        (see last, record { looked = refl; any = fine; read = refl }, is.1)

-- playing is told of the end that is handed out
pub handed_out : {D : Type 0} (state : D → State) (tale : Tale) (how : Manner)
    (before after : Option (List (List ℕ))) (start : State) (ended out : Ended D Unit)
    → out ≡ ended
    → Plays tale how (fault_of ended.result) before after start (state ended.disk)
    → Plays tale how (fault_of out.result) before after start (state out.disk)
handed_out state tale how before after start ended out same plays = subst (λ (e : Ended _ Unit).
    Plays tale how (fault_of e.result) before after start (state e.disk)) (sym same) plays

-- what holds of a disk that was fed holds of it as it is handed out
pub fed_as : {D : Type 0} (P : Option Refusal → D → Type 0) (fed : Fed D) (ended : Ended D Unit)
    → IsEndOf fed ended → P (ending_of fed) (disk_of fed) → P (fault_of ended.result) ended.disk
fed_as P fed ended is so =
    subst (P (fault_of ended.result)) (sym is.disk)
    (subst (λ e. P e (disk_of fed)) (sym is.ending) so)

-- the end of what was fed is handed out
pub fed_out : {D : Type 0} (state : D → State) (tale : Tale) (how : Manner)
    (before after : Option (List (List ℕ))) (start : State) (fed : Fed D) (ended : Ended D Unit)
    → IsEndOf fed ended
    → Plays tale how (ending_of fed) before after start (state (disk_of fed))
    → Plays tale how (fault_of ended.result) before after start (state ended.disk)
fed_out state tale how before after start fed ended is plays =
    fed_as (λ ending d. Plays tale how ending before after start (state d)) fed ended is plays
