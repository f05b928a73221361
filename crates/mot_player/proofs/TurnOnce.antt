-- The packets of a turn in which the directory is asked for gather to its groups, and these read as
-- its carousel.
use Rattle.std.proofs.Common.{◌≡◌, ℕ, ◌<◌, List, [], ◌∷◌, ◌++◌, Bool, true, false, Option, Some}
use Rattle.std.proofs.Common.{None, ◌⊎◌, inl, inr, refl, sym, subst, map, length, take, drop}
use Rattle.std.proofs.Common.{replicate, suc, zero, arith, ap, ◌∙◌}
use Rattle.std.proofs.lemmas.Bool.{and_parts}
use Rattle.std.proofs.lemmas.Option.{none-some, same_Some}
use Rattle.std.specs.Prelude.{◌==◌, ◌&&◌, IfSome, if◌then◌else◌}
use Rattle.std.specs.List.{AllByRecursion}
use Rattle.mot_groups.specs.Entity.{pieces, segments_of}
use Rattle.mot_groups.specs.Group.{Segment, GroupFields, IsGroup, bytes_of_group}
use Rattle.mot_numbers.specs.Reading.{is_empty}
use Rattle.mot_objects.specs.Carousel.{Carousel, IsSound}
use Rattle.mot_packets.specs.Cut.{piece_at}
use Rattle.mot_packets.specs.Gather.{groups_after, gather, gather_front}
use Rattle.mot_packets.specs.Packet.{PacketFields}
use Rattle.mot_packets.proofs.Laws.{groups_after-last_piece, groups_after-piece, more_left}
use Rattle.mot_player.specs.Laws.{AreSent, IsAtTurnsBeginning, IsPlace}
use Rattle.mot_player.specs.Place.{Place, Sent, Step, Request, NewTurn, Directory, Follow, UnderWay}
use Rattle.mot_player.specs.Place.{directory_segments, first_sent, group_for, hear_directory}
use Rattle.mot_player.specs.Place.{left_of, left_with, next_sent, of_bodies, packet_sent, request}
use Rattle.mot_player.specs.Place.{sent_by, to_send, with_begun}
use Rattle.mot_player.specs.Reading.{ReadsAs, read_turn}
use Rattle.mot_player.specs.Repeats.{ReadAsTurn, TurnsReadWithDirectories}
use Rattle.mot_player.specs.Repeats.{ends_at_last, had_with, read_turn_once, received}
use Rattle.mot_player.specs.Turn.{IsTurnOf, segments_of_bodies, segments_of_turn}
use Rattle.mot_player.proofs.Addresses.{one_address, steps-address}
use Rattle.mot_player.proofs.Asked.{ask_directory, keep-turn, keep_turn}
use Rattle.mot_player.proofs.Followed.{AreBodies, bodies-append, bodies-numbered}
use Rattle.mot_player.proofs.Indexes.{some_bytes-group}
use Rattle.mot_player.proofs.Repeated.{IsLeft, heard-left, is_left-heard, left-heard, left-next}
use Rattle.mot_player.proofs.Repeated.{received-turn}
use Rattle.mot_player.proofs.Requests.{FirstRequest, first_request, no_steps, packets_of}
use Rattle.mot_player.proofs.Requests.{place_behind}
use Rattle.mot_player.proofs.TurnReads.{EntityLaws, read_segments-turn}
use Rattle.mot_player.proofs.WholeTurn.{IsFit, KeepsIndexes, append-fit, are_fit-turn, begun-keeps}
use Rattle.mot_player.proofs.WholeTurn.{entity-laws, group-index_fits, groups-read, is_group}
use Rattle.mot_player.proofs.WholeTurn.{ends_of, head-false, head-true, last_ends}
use Rattle.mot_player.proofs.UnderWay.{front_of, group_of}

-- The packets of what is left, behind the front of one group: what they carry is received as what
-- is left is, and is that itself if the directory is not asked for.
pub record SendsLeft (asked : Bool) (front : List ℕ) (begun : List (List ℕ))
    (had left : List Segment) (packets : List PacketFields) : Type 0 where
  pub groups : List GroupFields
  pub gathered : groups_after front packets ≡ Some (begun ++ map bytes_of_group groups, [])
  pub once : received had (map (λ (g : GroupFields). g.segment) groups) ≡ received had left
  pub plain : asked ≡ false → map (λ (g : GroupFields). g.segment) groups ≡ left
  pub are_groups : AllByRecursion IsGroup groups

-- a place within a turn: what a receiver has of it, and what is left
pub record IsWithin (had : List Segment) (place : Place) (left : List Segment) : Type 0 where
  pub keeps : KeepsIndexes place
  pub room : 0 < place.room
  pub size : 0 < place.segment_size
  pub some : 0 < length place.turn.directory
  pub directory : AllByRecursion IsFit (directory_segments place.turn place.segment_size)
  pub fit : AllByRecursion IsFit left
  pub is_left : IsLeft (directory_segments place.turn place.segment_size) had left

abbrev pub SendsFrom : List Step → Type 0
SendsFrom steps =
    (had : List Segment) (place : Place) (sents : List Sent) (new : Place) →
    IsWithin had place (left_of place) →
    IfSome place.under_way (λ (u : UnderWay). u.sent < length u.group) →
    keep_turn steps ≡ true → sent_by place steps ≡ Some (sents, new) → ends_at_last sents ≡ true →
    SendsLeft (ask_directory steps) (front_of place.under_way) (group_of place.under_way) had
    (left_of place) (packets_of sents)

none_of : (sents : List Sent) → is_empty sents ≡ true → sents ≡ []
none_of sents e = grind arith

no_groups : groups_after [] [] ≡ Some ([], [])
unfolding groups_after
no_groups = refl

behind-left : (place : Place) (t : Segment) (segments : List Segment) →
    place.waiting ≡ t ∷ segments → to_send place ≡ t ∷ segments
behind-left place t segments e = rw e refl

-- the next packet of a group
module _ (steps : List Step) (ih : SendsFrom steps) (had : List Segment) (place : Place)
    (group : List ℕ) (at : ℕ) (others : List Sent) (new : Place) (l : at < length group)
    (keep : keep_turn steps ≡ true) where
  abbrev piece : PacketFields
  piece = piece_at place.room place.address place.index group at

  abbrev asked : Bool
  asked = ask_directory steps

  packet-sends : (last : Bool) (w : List Segment) → piece.last ≡ last → place.waiting ≡ w →
      IsWithin had place w → sent_by (place_behind place group at last) steps ≡ Some (others, new) →
      (if last && is_empty w then is_empty others else ends_at_last others) ≡ true →
      SendsLeft asked (take at group) (group ∷ []) had w (piece ∷ packets_of others)
  packet-sends true [] is e within h ends =
      subst (λ (ss : List Sent). SendsLeft asked (take at group) (group ∷ []) had []
      (piece ∷ packets_of ss)) (sym (none_of others ends)) (record {
        groups = [];
        gathered = groups_after-last_piece place.room place.address place.index at group [] [] []
            within.room l is no_groups;
        once = refl;
        plain = λ f. refl;
        are_groups = tt;
      })
  packet-sends true (t ∷ w) is e within h ends =
      let behind : Place = place_behind place group at true in
      let same : left_of behind ≡ t ∷ w = behind-left behind t w e in
      let rest = ih had behind others new (record {
        keeps = record { directory = within.keeps.directory; body = within.keeps.body };
        room = within.room;
        size = within.size;
        some = within.some;
        directory = within.directory;
        fit = subst (AllByRecursion IsFit) (sym same) within.fit;
        is_left = subst (IsLeft (directory_segments place.turn place.segment_size) had) (sym same)
            within.is_left;
      }) tt keep h ends in
      record {
        groups = rest.groups;
        gathered = groups_after-last_piece place.room place.address place.index at group
            (packets_of others) (map bytes_of_group rest.groups) [] within.room l is rest.gathered;
        once = rest.once ∙ ap (received had) same;
        plain = λ f. rest.plain f ∙ same;
        are_groups = rest.are_groups;
      }
  packet-sends false w is e within h ends =
      let behind : Place = place_behind place group at false in
      let rest = ih had behind others new (record {
        keeps = record { directory = within.keeps.directory; body = within.keeps.body };
        room = within.room;
        size = within.size;
        some = within.some;
        directory = within.directory;
        fit = subst (AllByRecursion IsFit) (sym e) within.fit;
        is_left = subst (IsLeft (directory_segments place.turn place.segment_size) had) (sym e)
            within.is_left;
      }) (more_left place.room place.address place.index at group is) keep h ends in
      record {
        groups = rest.groups;
        gathered = groups_after-piece place.room place.address place.index at group
            (packets_of others) (group ∷ map bytes_of_group rest.groups) [] within.room l is
            rest.gathered;
        once = rest.once ∙ ap (received had) e;
        plain = λ f. rest.plain f ∙ e;
        are_groups = rest.are_groups;
      }

-- the first packet of the group of the first segment that is left
begun-sends : (steps : List Step) → SendsFrom steps → (had : List Segment) (place : Place)
    (segments : List Segment) (s : Sent) (others : List Sent) (new : Place) →
    IsWithin had place segments → keep_turn steps ≡ true → first_sent place segments ≡ Some s →
    sent_by s.place steps ≡ Some (others, new) → ends_at_last (s ∷ others) ≡ true →
    SendsLeft (ask_directory steps) [] [] had segments (s.packet ∷ packets_of others)
begun-sends steps ih had place [] s others new within keep e h ends = absurd (none-some s e)
begun-sends steps ih had place (t ∷ segments) s others new within keep e h ends =
    let g : GroupFields = group_for place t in
    let begun : Place = with_begun place g segments in
    let first : Sent = packet_sent begun (bytes_of_group g) 0 in
    let same : first ≡ s = same_Some first s e in
    let rest : sent_by first.place steps ≡ Some (others, new) =
    ap (λ (x : Sent). sent_by x.place steps) same ∙ h in
    let flags : ends_at_last (first ∷ others) ≡ true =
    ap (λ (x : Sent). ends_at_last (x ∷ others)) same ∙ ends in
    let behind : SendsLeft (ask_directory steps) [] (bytes_of_group g ∷ []) (had_with had t)
    segments (first.packet ∷ packets_of others) =
    packet-sends steps ih (had_with had t) begun (bytes_of_group g) 0 others new
    (some_bytes-group g) keep first.packet.last segments refl refl (record {
      keeps = begun-keeps place t segments within.keeps;
      room = within.room;
      size = within.size;
      some = within.some;
      directory = within.directory;
      fit = within.fit.1;
      is_left = left-next (directory_segments place.turn place.segment_size) had t segments
          within.is_left;
    }) rest flags in
    subst (λ (x : Sent). SendsLeft (ask_directory steps) [] [] had (t ∷ segments)
    (x.packet ∷ packets_of others)) same (record {
      groups = g ∷ behind.groups;
      gathered = behind.gathered;
      once = behind.once;
      plain = λ f. ap (λ ss. t ∷ ss) (behind.plain f);
      are_groups = (
        is_group g.index t (group-index_fits place t within.keeps) within.fit.0,
        behind.are_groups,
      );
    })

next-sends : (steps : List Step) → SendsFrom steps → (had : List Segment) (place : Place)
    (u : Option UnderWay) (s : Sent) (others : List Sent) (new : Place) →
    IsWithin had place (left_with place u) →
    IfSome u (λ (u : UnderWay). u.sent < length u.group) → keep_turn steps ≡ true →
    next_sent place u ≡ Some s → sent_by s.place steps ≡ Some (others, new) →
    ends_at_last (s ∷ others) ≡ true →
    SendsLeft (ask_directory steps) (front_of u) (group_of u) had (left_with place u)
    (s.packet ∷ packets_of others)
next-sends steps ih had place None s others new within inside keep e h ends =
    begun-sends steps ih had place (to_send place) s others new within keep e h ends
next-sends steps ih had place (Some u) s others new within inside keep e h ends =
    let first : Sent = packet_sent place u.group u.sent in
    let same : first ≡ s = same_Some first s e in
    let rest : sent_by first.place steps ≡ Some (others, new) =
    ap (λ (x : Sent). sent_by x.place steps) same ∙ h in
    let flags : ends_at_last (first ∷ others) ≡ true =
    ap (λ (x : Sent). ends_at_last (x ∷ others)) same ∙ ends in
    subst (λ (x : Sent). SendsLeft (ask_directory steps) (take u.sent u.group) (u.group ∷ []) had
    place.waiting (x.packet ∷ packets_of others)) same
    (packet-sends steps ih had place u.group u.sent others new inside keep first.packet.last
    place.waiting refl refl within rest flags)

fit-bodies : (b : Bool) (x : Segment) (xs : List Segment) → IsFit x → AllByRecursion IsFit xs →
    AllByRecursion IsFit (if b then x ∷ xs else xs)
fit-bodies b x xs f fs = grind arith

fit-of_bodies : (xs : List Segment) → AllByRecursion IsFit xs → AllByRecursion IsFit (of_bodies xs)
fit-of_bodies [] f = tt
fit-of_bodies (x ∷ xs) f = fit-bodies (x.kind == 4) x (of_bodies xs) f.0 (fit-of_bodies xs f.1)

-- where the directory was asked for: within the turn still, and what is left is received as before
heard-within : (had : List Segment) (place : Place) → IsWithin had place (left_of place) →
    IsWithin had (hear_directory place) (left_of (hear_directory place))
    × (received had (left_of (hear_directory place)) ≡ received had (left_of place))
unfolding hear_directory
heard-within had place within =
    heard-cases (heard-left place place.under_way place.waiting (is_empty place.waiting) refl
    within.size within.some)
  where
    heard-is : (left : List Segment) → AllByRecursion IsFit left →
        IsLeft (directory_segments place.turn place.segment_size) had left →
        left_of (hear_directory place) ≡ left → IsWithin had (hear_directory place)
        (left_of (hear_directory place))
    heard-is left fit is_left e = record {
      keeps = record { directory = within.keeps.directory; body = within.keeps.body };
      room = within.room;
      size = within.size;
      some = within.some;
      directory = within.directory;
      fit = subst (AllByRecursion IsFit) (sym e) fit;
      is_left = subst (IsLeft (directory_segments place.turn place.segment_size) had) (sym e)
          is_left;
    }

    heard-cases : (left_of (hear_directory place) ≡ left_of place)
        ⊎ (left_of (hear_directory place)
        ≡ directory_segments place.turn place.segment_size ++ of_bodies (left_of place)) →
        IsWithin had (hear_directory place) (left_of (hear_directory place))
        × (received had (left_of (hear_directory place)) ≡ received had (left_of place))
    heard-cases (inl e) =
        (heard-is (left_of place) within.fit within.is_left e, ap (received had) e)
    heard-cases (inr e) = (
      heard-is (directory_segments place.turn place.segment_size ++ of_bodies (left_of place))
          (append-fit (directory_segments place.turn place.segment_size)
          (of_bodies (left_of place)) within.directory (fit-of_bodies (left_of place) within.fit))
          (is_left-heard place.turn place.segment_size had (left_of place) within.is_left) e,
      ap (received had) e
          ∙ left-heard place.turn place.segment_size had (left_of place) within.is_left,
    )

heard-under : (place : Place) → place.under_way ≡ (hear_directory place).under_way
unfolding hear_directory
heard-under place = refl

pub steps-send : (steps : List Step) → SendsFrom steps
unfolding sent_by request
steps-send [] had place sents new within inside keep h ends =
    absurd (let f : false ≡ true = ap ends_at_last (no_steps place sents new h) ∙ ends in cc)
steps-send (Request ∷ steps) had place sents new within inside keep h ends =
    let q : FirstRequest place steps sents new = first_request place steps sents new h in
    subst (λ (ss : List Sent). SendsLeft (ask_directory steps) (front_of place.under_way)
    (group_of place.under_way) had (left_of place) (packets_of ss)) (sym q.all)
    (next-sends steps (steps-send steps) had place place.under_way q.first q.others new within
    inside keep q.asked q.rest (ap ends_at_last (sym q.all) ∙ ends))
steps-send (NewTurn turn ∷ steps) had place sents new within inside keep h ends =
    absurd (let f : false ≡ true = keep in cc)
steps-send (Directory ∷ steps) had place sents new within inside keep h ends =
    let heard : Place = hear_directory place in
    let is = heard-within had place within in
    let under : place.under_way ≡ heard.under_way = heard-under place in
    let rest = steps-send steps had heard sents new is.0
    (subst (λ (u : Option UnderWay). IfSome u (λ (u : UnderWay). u.sent < length u.group)) under
    inside) keep h ends in
    record {
      groups = rest.groups;
      gathered = ap (λ (u : Option UnderWay). groups_after (front_of u) (packets_of sents)) under
          ∙ rest.gathered
          ∙ ap (λ (u : Option UnderWay).
          Some (group_of u ++ map bytes_of_group rest.groups, [])) (sym under);
      once = rest.once ∙ is.1;
      plain = λ f. absurd (let g : true ≡ false = f in cc);
      are_groups = rest.are_groups;
    }
steps-send (Follow turn ∷ steps) had place sents new within inside keep h ends =
    absurd (let f : false ≡ true = keep in cc)

pub front-fit : (xs ys : List Segment) → AllByRecursion IsFit (xs ++ ys) → AllByRecursion IsFit xs
front-fit [] ys f = tt
front-fit (x ∷ xs) ys f = (f.0, front-fit xs ys f.1)

pub bodies-bodies : (size : ℕ) (bodies : List (ℕ × List ℕ)) →
    AreBodies (segments_of_bodies size bodies)
bodies-bodies size [] = tt
bodies-bodies size (b ∷ bodies) =
    bodies-append (segments_of 4 b.0 size b.1) (segments_of_bodies size bodies)
    (bodies-numbered b.0 0 (pieces size b.1)) (bodies-bodies size bodies)

-- a turn at its beginning
module _ (old : Place) (c : Carousel) (place : IsPlace old)
    (is_turn : IsTurnOf old.turn c old.segment_size) (sound : IsSound c)
    (begins : IsAtTurnsBeginning old) where
  abbrev size : ℕ
  size = old.segment_size

  abbrev directory : List Segment
  directory = directory_segments old.turn size

  whole-left : left_of old ≡ segments_of_turn old.turn size
  whole-left = grind arith

  fit-whole : AllByRecursion IsFit (segments_of_turn old.turn size)
  fit-whole = grind (arith, are_fit-turn, entity-laws)

  within-whole : IsWithin [] old (left_of old)
  within-whole = record {
    keeps = record { directory = place.directory; body = place.body };
    room = place.room;
    size = place.size.0;
    some = place.playable.directory.some;
    directory = front-fit directory (segments_of_bodies size old.turn.bodies) fit-whole;
    fit = subst (AllByRecursion IsFit) (sym whole-left) fit-whole;
    is_left = record {
      before = [];
      after = directory;
      bodies = segments_of_bodies size old.turn.bodies;
      cut = refl;
      all = whole-left;
      known = tt;
      are_bodies = bodies-bodies size old.turn.bodies;
    };
  }

  received-whole : received [] (left_of old) ≡ segments_of_turn old.turn size
  received-whole = grind (arith, and_parts, whole-left, received-turn)

  turn-reads : (new : Place) (steps : List Step) (sents : List Sent) (packets : List (List ℕ)) →
      keep_turn steps ≡ true → sent_by old steps ≡ Some (sents, new) → ends_at_last sents ≡ true →
      AreSent sents packets → ReadAsTurn (ask_directory steps) packets c size
  unfolding read_turn read_turn_once gather gather_front
  turn-reads new steps sents packets keep h ends sent =
      let laws : EntityLaws size = entity-laws size place.size.0 in
      let sends = steps-send steps [] old sents new within-whole
      (subst (λ (u : Option UnderWay). IfSome u (λ (u : UnderWay). u.sent < length u.group))
      (sym begins.under_way) tt) keep h ends in
      let gathered : groups_after [] (packets_of sents)
      ≡ Some (map bytes_of_group sends.groups, []) =
      ap (λ (u : Option UnderWay). groups_after (front_of u) (packets_of sents))
      (sym begins.under_way)
      ∙ sends.gathered
      ∙ ap (λ (u : Option UnderWay). Some (group_of u ++ map bytes_of_group sends.groups, []))
      begins.under_way in
      let address = one_address old.address (packets_of sents) (steps-address steps old sents new h)
      in
      let reads = read_segments-turn size laws old.turn c is_turn sound place.playable in
      record {
        once = rw (
          sent,
          address,
          gathered,
          groups-read size laws place.size.1 sends.groups sends.are_groups,
          sends.once,
          received-whole,
        ) reads;
        plain = λ f. rw (
          sent,
          address,
          gathered,
          groups-read size laws place.size.1 sends.groups sends.are_groups,
          sends.plain f,
          whole-left,
        ) reads;
      }

-- the packets of a turn read as its carousel, however often its directory is asked for
pub turns-read-with_directories : (old new : Place) (c : Carousel) (steps : List Step)
    (sents : List Sent) (packets : List (List ℕ)) → IsPlace old →
    IsTurnOf old.turn c old.segment_size → IsSound c → IsAtTurnsBeginning old →
    keep_turn steps ≡ true → sent_by old steps ≡ Some (sents, new) → ends_at_last sents ≡ true →
    AreSent sents packets → ReadAsTurn (ask_directory steps) packets c old.segment_size
turns-read-with_directories old new c steps sents packets place is_turn sound begins keep h ends =
    turn-reads old c place is_turn sound begins new steps sents packets keep h ends

pub turns-read : TurnsReadWithDirectories
turns-read old new c asked steps sents packets place is_turn sound begins keeps h ends are =
    let kept = keep-turn asked steps keeps in
    let read : ReadAsTurn (ask_directory steps) packets c old.segment_size =
    turn-reads old c place is_turn sound begins new steps sents packets kept.0 h ends are in
    record { once = read.once; plain = λ f. read.plain (kept.1 f) }

-- where nothing but requests come, no turn comes and the directory is not asked for
keep-requests : (n : ℕ) → keep_turn (replicate n Request) ≡ true
keep-requests zero = refl
keep-requests (suc n) = keep-requests n

ask-requests : (n : ℕ) → ask_directory (replicate n Request) ≡ false
ask-requests zero = refl
ask-requests (suc n) = ask-requests n

none_end : (n : ℕ) → [] ≡ last_ends n → ⊥
none_end n e = grind arith

-- of n + 1 packets the last alone ends the turn
ends-last : (b : Bool) (n : ℕ) (sents : List Sent) → b ∷ ends_of sents ≡ last_ends n →
    (if b then is_empty sents else ends_at_last sents) ≡ true
ends-last true zero [] e = refl
ends-last true zero (s ∷ sents) e = absurd (omega (arith, ap (λ bs. length (drop 1 bs)) e))
ends-last true (suc n) sents e = absurd (head-true (ends_of sents) (last_ends n) e)
ends-last false zero sents e = absurd (head-false (ends_of sents) [] e)
ends-last false (suc n) [] e = absurd (none_end n (ap (drop 1) e))
ends-last false (suc n) (s ∷ sents) e = ends-last s.ends_turn n sents (ap (drop 1) e)

-- the packets of a turn from its beginning on read as its carousel
pub turns_read_as_their_carousels : (old new : Place) (c : Carousel) (n : ℕ) (sents : List Sent)
    (packets : List (List ℕ)) → IsPlace old → IsTurnOf old.turn c old.segment_size → IsSound c →
    IsAtTurnsBeginning old → sent_by old (Request ∷ replicate n Request) ≡ Some (sents, new) →
    map (λ (s : Sent). s.ends_turn) sents ≡ replicate n false ++ true ∷ [] →
    AreSent sents packets → ReadsAs packets c old.segment_size
turns_read_as_their_carousels old new c n sents packets place is_turn sound begins h flags sent =
    let q : FirstRequest old (replicate n Request) sents new =
    first_request old (replicate n Request) sents new h in
    let ends : ends_at_last sents ≡ true =
    ap ends_at_last q.all
    ∙ ends-last q.first.ends_turn n q.others (ap ends_of (sym q.all) ∙ flags) in
    (turn-reads old c place is_turn sound begins new (Request ∷ replicate n Request) sents packets
    (keep-requests n) h ends sent).plain (ask-requests n)
