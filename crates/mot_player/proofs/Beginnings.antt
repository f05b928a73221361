-- Where a player stands behind whatever steps, and that a turn begins where one has ended.
use Rattle.std.proofs.Common.{arith, ◌≡◌, ℕ, ◌<◌, ◌≤◌, Bool, true, false, not, List, [], ◌∷◌, ◌++◌}
use Rattle.std.proofs.Common.{Option, Some, None, ◌⊎◌, refl, sym, subst}
use Rattle.std.proofs.lemmas.List.Elements.{filter-append}
use Rattle.std.proofs.lemmas.Option.{none-some, same_Some}
use Rattle.std.specs.Prelude.{◌||◌, if◌then◌else◌, is_some}
use Rattle.mot_groups.specs.Group.{GroupFields, Segment, bytes_of_group}
use Rattle.mot_numbers.specs.Reading.{is_empty}
use Rattle.mot_numbers.specs.declared.numbers.TheConstants.{MAX_SEGMENT}
use Rattle.mot_player.specs.Laws.{IsAtTurnsBeginning, IsPlace}
use Rattle.mot_player.specs.Place.{Place, Sent, UnderWay, change_turn, changed}
use Rattle.mot_player.specs.Place.{directory_segments, first_sent, follow, group_for}
use Rattle.mot_player.specs.Place.{hear_directory, next_sent, of_bodies, opened_place, packet_sent}
use Rattle.mot_player.specs.Place.{request, to_send, with_begun}
use Rattle.mot_player.specs.Turn.{IsPlayable, Turn, segments_of_turn}
use Rattle.mot_player.proofs.Repeated.{of_bodies-all}
use Rattle.mot_player.proofs.TurnOnce.{bodies-bodies}
use Rattle.mot_player.proofs.WholeTurn.{KeepsIndexes, begun-keeps}
use Rattle.mot_player.proofs.Followed.{of_bodies-directory}

-- no group is under way
abbrev is_between : Option UnderWay → Bool
is_between None = true
is_between (Some u) = false

-- the turn comes next from its beginning, behind the group under way
abbrev IsNext : Place → Type 0
IsNext place =
    (place.waiting ≡ []) ⊎ (place.waiting ≡ segments_of_turn place.turn place.segment_size)

-- A player's place, whether it follows or not, between two groups or not; and its turn comes next
-- from its beginning, or it may not.
pub record StandsAt (follows between whole : Bool) (size : ℕ) (turn : Turn) (place : Place) :
    Type 0 where
  pub room : 0 < place.room
  pub size_is : place.segment_size ≡ size
  pub follows_is : is_some place.follows ≡ follows
  pub turn_is : place.turn ≡ turn
  pub keeps : KeepsIndexes place
  pub between_is : is_between place.under_way ≡ between
  pub next : whole ≡ true → IsNext place

not_yet : {A : Type 0} → false ≡ true → A
not_yet e = absurd (let f : false ≡ true = e in cc)

-- nothing was begun
pub stands-opened : (address room size : ℕ) (turn : Turn) (follows : Option ℕ) → 0 < room →
    StandsAt (is_some follows) true true size turn
    (record (opened_place address room size turn) { follows = follows })
stands-opened address room size turn follows some = grind arith

-- the next packet of a group
module _ (follows whole : Bool) (size : ℕ) (turn : Turn) (place : Place) (group : List ℕ) (at : ℕ)
    (some : 0 < place.room) (same : place.segment_size ≡ size)
    (is : is_some place.follows ≡ follows)
    (turn_is : place.turn ≡ turn) (keeps : KeepsIndexes place)
    (next : whole ≡ true → IsNext place) where
  abbrev sent : Sent
  sent = packet_sent place group at

  next-cases : (b : Bool) → (b ≡ true → IsNext place) → (b || sent.ends_turn) ≡ true →
      IsNext sent.place
  next-cases b n e = grind arith

  packet-stands : StandsAt follows sent.packet.last (whole || sent.ends_turn) size turn sent.place
  packet-stands = grind arith

first-stands : (follows between whole : Bool) (size : ℕ) (turn : Turn) (place : Place)
    (segments : List Segment) (s : Sent) → StandsAt follows between whole size turn place →
    first_sent place segments ≡ Some s →
    StandsAt follows s.packet.last s.ends_turn size turn s.place
first-stands follows between whole size turn place [] s st e = absurd (none-some s e)
first-stands follows between whole size turn place (t ∷ segments) s st e =
    let g : GroupFields = group_for place t in
    let begun : Place = with_begun place g segments in
    subst (λ (x : Sent). StandsAt follows x.packet.last x.ends_turn size turn x.place)
    (same_Some (packet_sent begun (bytes_of_group g) 0) s e)
    (packet-stands follows false size turn begun (bytes_of_group g) 0 st.room st.size_is
    st.follows_is st.turn_is (begun-keeps place t segments st.keeps) not_yet)

-- whether the turn comes next behind a packet
abbrev pub whole_behind : (between whole : Bool) → Sent → Bool
whole_behind between whole s = if between then s.ends_turn else whole || s.ends_turn

next-stands : (follows between whole : Bool) (size : ℕ) (turn : Turn) (place : Place)
    (u : Option UnderWay) (s : Sent) → StandsAt follows between whole size turn place →
    is_between u ≡ between → next_sent place u ≡ Some s →
    StandsAt follows s.packet.last (whole_behind between whole s) size turn s.place
next-stands follows between whole size turn place None s st is e =
    subst (λ b. StandsAt follows s.packet.last (whole_behind b whole s) size turn s.place) is
    (first-stands follows between whole size turn place (to_send place) s st e)
next-stands follows between whole size turn place (Some u) s st is e =
    subst (λ b. StandsAt follows s.packet.last (whole_behind b whole s) size turn s.place) is
    (subst (λ (x : Sent). StandsAt follows x.packet.last (whole || x.ends_turn) size turn x.place)
    (same_Some (packet_sent place u.group u.sent) s e)
    (packet-stands follows whole size turn place u.group u.sent st.room st.size_is st.follows_is
    st.turn_is st.keeps st.next))

-- a packet was sent
pub stands-sent : (follows between whole : Bool) (size : ℕ) (turn : Turn) (place : Place)
    (s : Sent) → StandsAt follows between whole size turn place → request place ≡ Some s →
    StandsAt follows s.packet.last (whole_behind between whole s) size turn s.place
unfolding request
stands-sent follows between whole size turn place s st e =
    next-stands follows between whole size turn place place.under_way s st st.between_is e

followed-stands : (between whole : Bool) (size : ℕ) (old : Turn) (place : Place) (turn : Turn) →
    StandsAt true between whole size old place →
    StandsAt true between false size turn (follow turn place)
unfolding follow
followed-stands between whole size old place turn st = grind arith

anew-stands : (between whole : Bool) (size : ℕ) (old : Turn) (place : Place) (turn : Turn) →
    StandsAt false between whole size old place →
    StandsAt false between true size turn (change_turn turn place)
unfolding change_turn
anew-stands between whole size old place turn st = grind arith

changed-cases : (b follows between whole : Bool) (size : ℕ) (old : Turn) (place : Place)
    (turn : Turn) → b ≡ follows → StandsAt follows between whole size old place →
    StandsAt follows between (not follows) size turn
    (if b then follow turn place else change_turn turn place)
changed-cases true true between whole size old place turn e st =
    followed-stands between whole size old place turn st
changed-cases false false between whole size old place turn e st =
    anew-stands between whole size old place turn st
changed-cases true false between whole size old place turn e st = not_yet (sym e)
changed-cases false true between whole size old place turn e st = not_yet e

-- the turn changed: it begins anew, or is followed
pub stands-changed : (follows between whole : Bool) (size : ℕ) (old : Turn) (place : Place)
    (turn : Turn) → StandsAt follows between whole size old place →
    StandsAt follows between (not follows) size turn (changed turn place)
unfolding changed
stands-changed follows between whole size old place turn st =
    changed-cases (is_some place.follows) follows between whole size old place turn st.follows_is st

whole-heard : (turn : Turn) (size : ℕ) →
    directory_segments turn size ++ of_bodies (segments_of_turn turn size)
    ≡ segments_of_turn turn size
whole-heard turn size =
    grind (arith, filter-append, of_bodies-directory, of_bodies-all, bodies-bodies)

heard-begins : (place : Place) (b : Bool) → (place.waiting ≡ [])
    ⊎ (place.waiting ≡ segments_of_turn place.turn place.segment_size) →
    is_empty place.waiting ≡ b →
    ((if b then []
    else directory_segments place.turn place.segment_size ++ of_bodies place.waiting) ≡ [])
    ⊎ ((if b then []
    else directory_segments place.turn place.segment_size ++ of_bodies place.waiting)
    ≡ segments_of_turn place.turn place.segment_size)
heard-begins place b w e = grind (arith, not_yet, whole-heard)

-- the directory was asked for
pub stands-heard : (follows between whole : Bool) (size : ℕ) (turn : Turn) (place : Place) →
    StandsAt follows between whole size turn place →
    StandsAt follows between whole size turn (hear_directory place)
unfolding hear_directory
stands-heard follows between whole size turn place st = record {
  room = st.room;
  size_is = st.size_is;
  follows_is = st.follows_is;
  turn_is = st.turn_is;
  keeps = record { directory = st.keeps.directory; body = st.keeps.body };
  between_is = st.between_is;
  next = λ e. heard-begins place (is_empty place.waiting) (st.next e) refl;
}

-- where a turn begins, every group can be sent
pub place-begins : (follows : Bool) (size : ℕ) (turn : Turn) (place : Place) →
    StandsAt follows true true size turn place → (0 < size) × (size ≤ MAX_SEGMENT) →
    IsPlayable turn size → IsPlace place × IsAtTurnsBeginning place
place-begins follows size turn place st range playable = grind arith
