-- The directory asked for often.
use Rattle.std.proofs.Common.{◌≡◌, ℕ, ◌-◌, Bool, true, false, not, ◌&&◌, List, [], ◌∷◌, ◌++◌, map}
use Rattle.std.proofs.Common.{Option, Some, None, refl, sym, ap, ◌∙◌, append_assoc, append-nil}
use Rattle.std.specs.Prelude.{if◌then◌else◌}
use Rattle.mot_feed.specs.Feeding.{Event, IsOften, is_due, is_often, pause}
use Rattle.mot_feed.specs.Feeding.Event.{Accepted, Asked, Played}
use Rattle.mot_objects.specs.declared.command.Command.{Command}
use Rattle.mot_player.specs.Place.{Sent}

-- These asked for it often, and what comes behind them does where so many packets more are sent;
-- there a turn has ended or not.
abbrev pub OftenUpTo : ℕ → Bool → Option ℕ → List Event → Type 0
OftenUpTo every ended left events = (others : List Event)
    → is_often every true (Some 0) (events ++ others) ≡ is_often every ended left others

-- the directory asked for, if it is due
abbrev pub asks : Bool → List Event
asks due = if due then Asked ∷ [] else []

-- what may be sent then
abbrev pub left_for : Bool → ℕ → Option ℕ
left_for due until = if due then None else Some until

-- nothing happened
pub often-none : (every : ℕ) → OftenUpTo every true (Some 0) []
often-none every others = refl

pub often-all : (every : ℕ) (ended : Bool) (left : Option ℕ) (events : List Event)
    → OftenUpTo every ended left events → IsOften every events
often-all every ended left events often =
    ap (is_often every true (Some 0)) (sym (append-nil events)) ∙ often []

often-on : (every : ℕ) (ended then_ended : Bool) (left next : Option ℕ) (events more : List Event)
    → OftenUpTo every ended left events
    → ((others : List Event)
    → is_often every ended left (more ++ others) ≡ is_often every then_ended next others)
    → OftenUpTo every then_ended next (events ++ more)
often-on every ended then_ended left next events more often on others =
    ap (is_often every true (Some 0)) (append_assoc events more others) ∙ often (more ++ others)
    ∙ on others

accepted-on : (every : ℕ) (ended : Bool) (left : Option ℕ) (commands : List Command)
    (others : List Event)
    → is_often every ended left (map Accepted commands ++ others)
    ≡ is_often every ended left others
accepted-on every ended left [] others = refl
accepted-on every ended left (command ∷ commands) others =
    accepted-on every ended left commands others

-- commands were accepted
pub often-accepted : (every : ℕ) (ended : Bool) (left : Option ℕ) (events : List Event)
    (commands : List Command) → OftenUpTo every ended left events
    → OftenUpTo every ended left (events ++ map Accepted commands)
often-accepted every ended left events commands often =
    often-on every ended ended left left events (map Accepted commands) often
    (accepted-on every ended left commands)

asked-on : (every until : ℕ) (ended due : Bool) → due ≡ is_due ended until → (others : List Event)
    → is_often every ended (Some until) (asks due ++ others)
    ≡ is_often every ended (left_for due until) others
asked-on every until ended true is others =
    ap (λ d. d && is_often every ended None others) (sym is)
asked-on every until ended false is others = refl

-- the directory was asked for, if it was due
pub often-asked : (every until : ℕ) (ended : Bool) (events : List Event) (due : Bool)
    → due ≡ is_due ended until → OftenUpTo every ended (Some until) events
    → OftenUpTo every ended (left_for due until) (events ++ asks due)
often-asked every until ended events due is often =
    often-on every ended ended (Some until) (left_for due until) events (asks due) often
    (asked-on every until ended due is)

sent-on : (every until next : ℕ) (ended then_ended due : Bool) (sent : Sent)
    → due ≡ is_due ended until → sent.ends_turn ≡ then_ended
    → next ≡ (if due then pause every sent.place else until - 1)
    → (others : List Event)
    → is_often every ended (left_for due until) (Played sent ∷ others)
    ≡ is_often every then_ended (Some next) others
sent-on every until next ended then_ended true sent is same anew others =
    ap (λ e. is_often every e (Some (pause every sent.place)) others) same
    ∙ ap (λ n. is_often every then_ended (Some n) others) (sym anew)
sent-on every until next ended then_ended false sent is same anew others =
    ap (λ d. not d && is_often every sent.ends_turn (Some (until - 1)) others) (sym is)
    ∙ ap (λ e. is_often every e (Some (until - 1)) others) same
    ∙ ap (λ n. is_often every then_ended (Some n) others) (sym anew)

-- a packet was sent
pub often-sent : (every until next : ℕ) (ended then_ended due : Bool) (events : List Event)
    (sent : Sent) → OftenUpTo every ended (left_for due until) events
    → due ≡ is_due ended until → sent.ends_turn ≡ then_ended
    → next ≡ (if due then pause every sent.place else until - 1)
    → OftenUpTo every then_ended (Some next) (events ++ Played sent ∷ [])
often-sent every until next ended then_ended due events sent often is same anew =
    often-on every ended then_ended (left_for due until) (Some next) events (Played sent ∷ []) often
    (sent-on every until next ended then_ended due sent is same anew)

-- a packet was made, and was not written whole
pub often-cut : (every until : ℕ) (ended due : Bool) (events : List Event) (sent : Sent)
    → OftenUpTo every ended (left_for due until) events → due ≡ is_due ended until
    → IsOften every (events ++ Played sent ∷ [])
often-cut every until ended due events sent often is =
    often (Played sent ∷ []) ∙ cut-one due is
  where
    cut-one : (due : Bool) → due ≡ is_due ended until
        → is_often every ended (left_for due until) (Played sent ∷ []) ≡ true
    cut-one true is = refl
    cut-one false is = ap (λ d. not d && true) (sym is)
