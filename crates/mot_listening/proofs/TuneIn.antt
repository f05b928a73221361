-- Who begins to listen at any packet has only segments of the turn on air; and the whole carousel
-- where two turns have ended.
use Rattle.std.proofs.Common.{◌≡◌, ℕ, ◌+◌, ◌<◌, ◌≤◌, List, [], ◌∷◌, ◌++◌, Bool, true, false}
use Rattle.std.proofs.Common.{Option, Some, None, refl, suc, sym, subst, map, length, ap, ◌∙◌}
use Rattle.std.specs.Int.{div_ceil}
use Rattle.std.proofs.lemmas.List.{map-append, take-append-drop}
use Rattle.std.proofs.lemmas.Option.{some_pair_parts}
use Rattle.std.specs.Prelude.{◌==◌, ◌&&◌, IfSome, if◌then◌else◌}
use Rattle.std.proofs.Common.{append-nil, append_assoc, arith, not}
use Rattle.std.proofs.lemmas.Bool.{and_parts}
use Rattle.std.specs.List.{list_any, AllByRecursion}
use Rattle.mot_groups.specs.Entity.{entity_of, own_segments, segments_of}
use Rattle.mot_groups.specs.Group.{GroupFields, Segment, IsGroup, bytes_of_group}
use Rattle.mot_numbers.specs.Reading.{◌>>=◌, is_empty}
use Rattle.mot_numbers.specs.declared.numbers.TheConstants.{MAX_SEGMENT}
use Rattle.mot_numbers.proofs.Laws.{>>=-some}
use Rattle.mot_objects.specs.Carousel.{Carousel, IsSound, Object}
use Rattle.mot_objects.specs.Ids.{contains, is_distinct}
use Rattle.mot_packets.specs.Gather.{groups_after, may_follow}
use Rattle.mot_packets.specs.Packet.{PacketFields}
use Rattle.mot_player.specs.Laws.{AreSent}
use Rattle.mot_listening.specs.Listening.{HearsBodiesIn, HearsCarousel, HearsEntity, HearsOnly}
use Rattle.mot_listening.specs.Listening.{collected, from_first}
use Rattle.mot_listening.specs.Listening.{read_heard, segments_heard}
use Rattle.mot_player.specs.Place.{Place, Sent, Step, Request, NewTurn, Directory, Follow, UnderWay}
use Rattle.mot_player.specs.Place.{directory_segments, early_of, hear_directory, left_of}
use Rattle.mot_player.specs.Place.{left_with, of_bodies, request, rest_of, sent_by, to_send}
use Rattle.mot_player.specs.Reading.{read_segments}
use Rattle.mot_player.specs.Repeats.{ends_at_last, had_with, is_same_segment, received}
use Rattle.mot_player.specs.Staying.{HasDirectory}
use Rattle.mot_player.specs.Turn.{IsPlayable, IsTurnOf, Turn, segments_of_bodies, segments_of_turn}
use Rattle.mot_player.specs.Turn.{turn_of_carousel}
use Rattle.mot_player.proofs.Laws.{EntityLaws, FirstRequest, IsFit, IsHad, IsWithin, all-append}
use Rattle.mot_player.proofs.Laws.{all-behind, all-front, all-received, any-front, are_fit-turn}
use Rattle.mot_player.proofs.Laws.{bodies-bodies, bodies-some, entity-laws, first_request}
use Rattle.mot_player.proofs.Laws.{front-fit, front_of, group_of, groups-read, had-all, had-new}
use Rattle.mot_player.proofs.Laws.{has-directory, ids_of, keep_turn, kept, next-ended, no_steps}
use Rattle.mot_player.proofs.Laws.{one_address, packets_of, received-front}
use Rattle.mot_player.proofs.Laws.{steps-address, steps-go_on, steps-send}
use Rattle.mot_listening.proofs.Collected.{all-filter, all-had, bodies-once, directory-collected}
use Rattle.mot_listening.proofs.Collected.{reads-collected}
use Rattle.mot_listening.proofs.DirectoryNext.{Comes, Gets, asked_packets, asks_once, finds, gets}
use Rattle.mot_listening.proofs.Counts.{front-all, packets-append, packets_for}
use Rattle.mot_listening.proofs.DirectoryNext.{group_left, until_asked}
use Rattle.mot_listening.proofs.Heard.{AreOfTurn, IsOnAir, few-to_send, heard-on, next-begins}
use Rattle.mot_listening.proofs.Heard.{segments_in}
use Rattle.mot_listening.proofs.Heard.{sent-on, steps-hear}
use Rattle.mot_listening.proofs.OfTurn.{all-of, any-append, or-left, or-right}
use Rattle.mot_listening.proofs.Rest.{IsRest, rest-to_send, to_send-on}

-- ---- packets in a row

-- whole groups stand in front of others, whole or not
pub groups-before : (packets more : List PacketFields) (front : List ℕ)
    (groups others : List (List ℕ)) (rest : List ℕ) →
    groups_after front packets ≡ Some (groups, []) →
    groups_after [] more ≡ Some (others, rest) →
    groups_after front (packets ++ more) ≡ Some (groups ++ others, rest)
unfolding groups_after
groups-before [] more front groups others rest e f =
    let parts = some_pair_parts [] groups front [] e in
    ap (λ (begun : List ℕ). groups_after begun more) parts.1 ∙ f
    ∙ ap (λ (gs : List (List ℕ)). Some (gs ++ others, rest)) parts.0
groups-before (p ∷ packets) more front groups others rest e f =
    let so_far : List ℕ = front ++ p.useful in
    let next : List ℕ = if p.last then [] else so_far in
    let one = >>=-some (groups_after next packets) (λ (rest : List (List ℕ) × List ℕ).
    if may_follow front p then Some (if p.last then so_far ∷ rest.0 else rest.0, rest.1) else None)
    (groups, []) e in
    let ok = kept (may_follow front p) (if p.last then so_far ∷ one.0.0 else one.0.0, one.0.1)
    (groups, []) one.2 in
    let parts = some_pair_parts (if p.last then so_far ∷ one.0.0 else one.0.0) groups one.0.1 []
    (ap Some ok.1) in
    let inner : groups_after next (packets ++ more) ≡ Some (one.0.0 ++ others, rest) =
    groups-before packets more next one.0.0 others rest
    (one.1 ∙ ap (λ (r : List ℕ). Some (one.0.0, r)) parts.1) f in
    let all : List (List ℕ) = one.0.0 ++ others in
    ap (λ (o : Option (List (List ℕ) × List ℕ)). o >>= λ (rest : List (List ℕ) × List ℕ).
    if may_follow front p then Some (if p.last then so_far ∷ rest.0 else rest.0, rest.1) else None)
    inner
    ∙ ap (λ (b : Bool). if b then Some (if p.last then so_far ∷ all else all, rest) else None) ok.0
    ∙ ap (λ (gs : List (List ℕ)). Some (gs, rest))
    (group-before p.last so_far one.0.0 others
    ∙ ap (λ (gs : List (List ℕ)). gs ++ others) parts.0)
  where
    group-before : (last : Bool) (x : List ℕ) (xs ys : List (List ℕ)) →
        (if last then x ∷ (xs ++ ys) else xs ++ ys) ≡ (if last then x ∷ xs else xs) ++ ys
    group-before true x xs ys = refl
    group-before false x xs ys = refl

-- behind packets of which some are dropped others begin with a first
first-before : (packets more : List PacketFields) → from_first more ≡ more →
    from_first (packets ++ more) ≡ from_first packets ++ more
first-before [] more e = e
first-before (p ∷ packets) more e = first-cases p.first (first-before packets more e)
  where
    first-cases : (b : Bool) → from_first (packets ++ more) ≡ from_first packets ++ more →
        (if b then p ∷ (packets ++ more) else from_first (packets ++ more))
        ≡ (if b then p ∷ packets else from_first packets) ++ more
    first-cases true f = refl
    first-cases false f = f

-- where no group is under way, the next packet is a first
under-heard : (place : Place) → place.under_way ≡ None → (hear_directory place).under_way ≡ None
unfolding hear_directory
under-heard place e = e

steps-begin : (steps : List Step) (place : Place) (sents : List Sent) (new : Place) →
    place.under_way ≡ None → keep_turn steps ≡ true → sent_by place steps ≡ Some (sents, new) →
    from_first (packets_of sents) ≡ packets_of sents
unfolding sent_by request
steps-begin [] place sents new none keep h =
    subst (λ (ss : List Sent). from_first (packets_of ss) ≡ packets_of ss)
    (no_steps place sents new h) refl
steps-begin (Request ∷ steps) place sents new none keep h =
    let q : FirstRequest place steps sents new = first_request place steps sents new h in
    subst (λ (ss : List Sent). from_first (packets_of ss) ≡ packets_of ss) (sym q.all)
    (next-begins place place.under_way q.first (packets_of q.others) none q.asked)
steps-begin (NewTurn t ∷ steps) place sents new none keep h =
    absurd (let f : false ≡ true = keep in cc)
steps-begin (Directory ∷ steps) place sents new none keep h =
    steps-begin steps (hear_directory place) sents new (under-heard place none) keep h
steps-begin (Follow t ∷ steps) place sents new none keep h =
    absurd (let f : false ≡ true = keep in cc)

keep-append : (xs ys : List Step) → keep_turn xs ≡ true → keep_turn ys ≡ true →
    keep_turn (xs ++ ys) ≡ true
keep-append [] ys e f = f
keep-append (Request ∷ xs) ys e f = keep-append xs ys e f
keep-append (NewTurn t ∷ xs) ys e f = e
keep-append (Directory ∷ xs) ys e f = keep-append xs ys e f
keep-append (Follow t ∷ xs) ys e f = e

-- ---- where a turn has ended

pub record HasEnded (place : Place) : Type 0 where
  pub under_way : place.under_way ≡ None
  pub waiting : place.waiting ≡ []

ended-heard : (place : Place) → HasEnded place → HasEnded (hear_directory place)
unfolding hear_directory
ended-heard place e = record { under_way = e.under_way; waiting = rw e.waiting refl }

ended-quiet : (steps : List Step) (place : Place) (sents : List Sent) (new : Place) →
    HasEnded place → is_empty sents ≡ true → keep_turn steps ≡ true →
    sent_by place steps ≡ Some (sents, new) → HasEnded new
unfolding sent_by
ended-quiet [] place sents new e none keep h =
    subst HasEnded (some_pair_parts [] sents place new h).1 e
ended-quiet (Request ∷ steps) place sents new e none keep h =
    let q : FirstRequest place steps sents new = first_request place steps sents new h in
    absurd (let f : false ≡ true = ap (λ (ss : List Sent). is_empty ss) (sym q.all) ∙ none in cc)
ended-quiet (NewTurn t ∷ steps) place sents new e none keep h =
    absurd (let f : false ≡ true = keep in cc)
ended-quiet (Directory ∷ steps) place sents new e none keep h =
    ended-quiet steps (hear_directory place) sents new (ended-heard place e) none keep h
ended-quiet (Follow t ∷ steps) place sents new e none keep h =
    absurd (let f : false ≡ true = keep in cc)

ended-cases : (first : Sent) (others : List Sent) (new : Place) (b : Bool) → first.ends_turn ≡ b →
    (first.ends_turn ≡ true → is_empty others ≡ true → HasEnded new) →
    (ends_at_last others ≡ true → HasEnded new) →
    (if b then is_empty others else ends_at_last others) ≡ true → HasEnded new
ended-cases first others new true e f g h = f e h
ended-cases first others new false e f g h = g h

pub steps-ended : (steps : List Step) (place : Place) (sents : List Sent) (new : Place) →
    keep_turn steps ≡ true → sent_by place steps ≡ Some (sents, new) →
    ends_at_last sents ≡ true → HasEnded new
unfolding sent_by request
steps-ended [] place sents new keep h ends =
    absurd (let f : false ≡ true = ap ends_at_last (no_steps place sents new h) ∙ ends in cc)
steps-ended (Request ∷ steps) place sents new keep h ends =
    let q : FirstRequest place steps sents new = first_request place steps sents new h in
    ended-cases q.first q.others new q.first.ends_turn refl
    (λ e none.
    let ended = next-ended place place.under_way q.first q.asked e in
    ended-quiet steps q.first.place q.others new
    (record { under_way = ended.0; waiting = ended.1 }) none keep q.rest)
    (λ e. steps-ended steps q.first.place q.others new keep q.rest e)
    (ap ends_at_last (sym q.all) ∙ ends)
steps-ended (NewTurn t ∷ steps) place sents new keep h ends =
    absurd (let f : false ≡ true = keep in cc)
steps-ended (Directory ∷ steps) place sents new keep h ends =
    steps-ended steps (hear_directory place) sents new keep h ends
steps-ended (Follow t ∷ steps) place sents new keep h ends =
    absurd (let f : false ≡ true = keep in cc)

pub steps-on : (size : ℕ) (turn : Turn) → 0 < size → HasDirectory turn → (steps : List Step)
    (place : Place) (sents : List Sent) (new : Place) → IsOnAir size turn place →
    keep_turn steps ≡ true → sent_by place steps ≡ Some (sents, new) → IsOnAir size turn new
unfolding sent_by
steps-on size turn some has [] place sents new on keep h =
    subst (IsOnAir size turn) (some_pair_parts [] sents place new h).1 on
steps-on size turn some has (Request ∷ steps) place sents new on keep h =
    let q : FirstRequest place steps sents new = first_request place steps sents new h in
    steps-on size turn some has steps q.first.place q.others new
    (sent-on size turn place q.first some on q.asked) keep q.rest
steps-on size turn some has (NewTurn t ∷ steps) place sents new on keep h =
    absurd (let f : false ≡ true = keep in cc)
steps-on size turn some has (Directory ∷ steps) place sents new on keep h =
    steps-on size turn some has steps (hear_directory place) sents new
    (heard-on size turn place some has on) keep h
steps-on size turn some has (Follow t ∷ steps) place sents new on keep h =
    absurd (let f : false ≡ true = keep in cc)

-- ---- what is received

received-more : (had ss : List Segment) (s : Segment) → IsHad had s → IsHad (received had ss) s
received-more had ss s h =
    let front = received-front had ss in
    ap (list_any (is_same_segment s)) front.1 ∙ any-front (is_same_segment s) had front.0 h

all-then_received : (had ss : List Segment) → AllByRecursion (IsHad (received had ss)) ss
all-then_received had [] = tt
all-then_received had (s ∷ ss) =
    (received-more (had_with had s) ss s (had-new had s), all-then_received (had_with had s) ss)

-- segments that are received as others are among them
pub among-received : (xs ys : List Segment) → received [] xs ≡ received [] ys →
    AllByRecursion (IsHad xs) ys
among-received xs ys e =
    all-had (IsHad xs) (received [] xs) ys (all-received (IsHad xs) [] xs tt (had-all xs))
    (subst (λ (h : List Segment). AllByRecursion (IsHad h) ys) (sym e) (all-then_received [] ys))

had-front : (xs ys zs : List Segment) → AllByRecursion (IsHad xs) zs →
    AllByRecursion (IsHad (xs ++ ys)) zs
had-front xs ys zs h = all-of (IsHad xs) (IsHad (xs ++ ys)) zs (λ s e.
    any-append (is_same_segment s) xs ys
    ∙ or-left (list_any (is_same_segment s) xs) (list_any (is_same_segment s) ys) e) h

had-behind : (xs ys zs : List Segment) → AllByRecursion (IsHad ys) zs →
    AllByRecursion (IsHad (xs ++ ys)) zs
had-behind xs ys zs h = all-of (IsHad ys) (IsHad (xs ++ ys)) zs (λ s e.
    any-append (is_same_segment s) xs ys
    ∙ or-right (list_any (is_same_segment s) xs) (list_any (is_same_segment s) ys) e) h

-- ---- listening

groups-append : (xs ys : List GroupFields) → AllByRecursion IsGroup xs →
    AllByRecursion IsGroup ys → AllByRecursion IsGroup (xs ++ ys)
groups-append [] ys p q = q
groups-append (x ∷ xs) ys p q = (p.0, groups-append xs ys p.1 q)

module _ (size : ℕ) (c : Carousel) (range : (0 < size) × (size ≤ MAX_SEGMENT)) (sound : IsSound c)
    (is_turn : IsTurnOf (turn_of_carousel c size) c size)
    (playable : IsPlayable (turn_of_carousel c size) size) where
  abbrev turn : Turn
  turn = turn_of_carousel c size

  abbrev whole : List Segment
  whole = segments_of_turn turn size

  laws : EntityLaws size
  laws = entity-laws size range.0

  fit : AllByRecursion IsFit whole
  fit = are_fit-turn size laws range.1 turn c is_turn sound playable

  -- whole groups are heard as their segments
  groups-heard : (place new : Place) (steps : List Step) (sents : List Sent)
      (packets : List (List ℕ)) (fields : List GroupFields) (rest : List ℕ) →
      sent_by place steps ≡ Some (sents, new) → AreSent sents packets →
      groups_after [] (from_first (packets_of sents)) ≡ Some (map bytes_of_group fields, rest) →
      AllByRecursion IsGroup fields → segments_heard packets ≡ Some (segments_in fields)
  unfolding segments_heard
  groups-heard place new steps sents packets fields rest h are gathered are_groups =
      rw (
        are,
        one_address place.address (packets_of sents) (steps-address steps place sents new h),
        gathered,
        groups-read size laws range.1 fields are_groups,
      ) refl

  -- whatever is heard whole is of the carousel
  pub hears-only : (place new : Place) (steps : List Step) (sents : List Sent)
      (packets : List (List ℕ)) → IsOnAir size turn place → keep_turn steps ≡ true →
      sent_by place steps ≡ Some (sents, new) → AreSent sents packets →
      HearsOnly packets c size
  hears-only place new steps sents packets on keep h are =
      let l = (steps-hear size turn range.0 (has-directory c size) fit steps place sents new on keep
      h).1.listens in
      record {
        segments = segments_in l.whole;
        heard = groups-heard place new steps sents packets l.whole l.rest h are l.gathered
            l.are_groups;
        of_it = l.of_turn;
      }

  -- The segments that are heard are of the turn, and these are among them.
  pub record HasHeard (packets : List (List ℕ)) (want : List Segment) : Type 0 where
    pub segments : List Segment
    pub heard : segments_heard packets ≡ Some segments
    pub of_turn : AreOfTurn size turn segments
    pub got : AllByRecursion (IsHad segments) want

  hears-got : (place new : Place) (sents : List Sent) (packets : List (List ℕ))
      (want : List Segment) → IsOnAir size turn place →
      Gets size turn range.0 (has-directory c size) fit place sents new want →
      AreSent sents packets → HasHeard packets want
  hears-got place new sents packets want on g are =
      let has : HasDirectory turn = has-directory c size in
      let mid_on = steps-on size turn range.0 has g.first place g.sent g.mid on g.keep_first
      g.sent_first in
      let first = g.hears.listens in
      let second =
      (steps-hear size turn range.0 has fit g.others g.mid g.more new mid_on g.keep_others
      g.sent_others).1.listens in
      let xs : List Segment = segments_in first.whole in
      let ys : List Segment = segments_in second.whole in
      let fields : List GroupFields = first.whole ++ second.whole in
      let starts : from_first (packets_of g.more) ≡ packets_of g.more =
      steps-begin g.others g.mid g.more new g.none g.keep_others g.sent_others in
      let first_whole : groups_after [] (from_first (packets_of g.sent))
      ≡ Some (map bytes_of_group first.whole, []) =
      first.gathered
      ∙ ap (λ (r : List ℕ). Some (map bytes_of_group first.whole, r)) (first.ended g.none) in
      let second_whole : groups_after [] (packets_of g.more)
      ≡ Some (map bytes_of_group second.whole, second.rest) =
      ap (groups_after []) (sym starts) ∙ second.gathered in
      let gathered : groups_after [] (from_first (packets_of (g.sent ++ g.more)))
      ≡ Some (map bytes_of_group fields, second.rest) =
      ap (λ (ps : List PacketFields). groups_after [] (from_first ps))
      (map-append (λ (s : Sent). s.packet) g.sent g.more)
      ∙ ap (groups_after []) (first-before (packets_of g.sent) (packets_of g.more) starts)
      ∙ groups-before (from_first (packets_of g.sent)) (packets_of g.more) []
      (map bytes_of_group first.whole) (map bytes_of_group second.whole) second.rest first_whole
      second_whole
      ∙ ap (λ (gs : List (List ℕ)). Some (gs, second.rest))
      (sym (map-append bytes_of_group first.whole second.whole)) in
      let heard : segments_heard packets ≡ Some (segments_in fields) =
      groups-heard place new (g.first ++ g.others) (g.sent ++ g.more) packets fields second.rest
      (steps-go_on g.first g.others place g.mid new g.sent g.more g.sent_first g.sent_others)
      (subst (λ (ss : List Sent). AreSent ss packets) g.all are) gathered
      (groups-append first.whole second.whole first.are_groups second.are_groups) in
      let split : segments_in fields ≡ xs ++ ys =
      map-append (λ (g : GroupFields). g.segment) first.whole second.whole in
      let got : AllByRecursion (IsHad xs) want =
      subst (λ (ss : List Segment). AllByRecursion (IsHad ss) want)
      (sym (first.all_began g.none)) g.got in
      record {
        segments = xs ++ ys;
        heard = heard ∙ ap (λ (ss : List Segment). Some ss) split;
        of_turn = all-append (IsHad whole) xs ys first.of_turn second.of_turn;
        got = had-front xs ys want got;
      }

  -- What comes next is heard, behind the group under way and the directories that are asked for.
  pub hears-coming : (place new : Place) (steps : List Step) (sents : List Sent)
      (packets : List (List ℕ)) (after : List Segment) → IsOnAir size turn place →
      keep_turn steps ≡ true → sent_by place steps ≡ Some (sents, new) →
      AreSent sents packets → Comes whole place after → AreOfTurn size turn after →
      group_left place.room place.under_way + packets_for place.room after
      + asked_packets (packets_for place.room (directory_segments turn size)) steps
      ≤ length sents → HasHeard packets after
  hears-coming place new steps sents packets after on keep h are comes of_turn enough =
      hears-got place new sents packets after on
      (gets size turn range.0 (has-directory c size) fit steps place sents new after place.room on
      refl keep h comes of_turn enough) are

  -- who has heard each segment of the turn has the carousel
  pub heard-carousel : (packets : List (List ℕ)) → HasHeard packets whole →
      HearsCarousel packets c size
  unfolding read_heard
  heard-carousel packets heard =
      ap (λ (o : Option (List Segment)). o >>= λ (segments : List Segment).
      read_segments (collected segments)) heard.heard
      ∙ reads-collected size laws c.directory c.period turn.directory c.objects heard.segments
      playable.directory.some is_turn.directory sound.ids
      (bodies-some size laws c.objects playable.bodies) heard.of_turn heard.got

  pub heard-directory : (packets : List (List ℕ)) →
      HasHeard packets (directory_segments turn size) →
      HearsEntity packets 6 turn.tid turn.directory
  heard-directory packets heard =
      ap (λ (o : Option (List Segment)). o >>= λ (segments : List Segment).
      entity_of (collected segments) 6 turn.tid) heard.heard
      ∙ directory-collected size laws c.directory turn.directory c.objects heard.segments
      playable.directory.some heard.of_turn heard.got

  -- and each body whose segments all are among those that it has heard
  heard-bodies : (packets : List (List ℕ)) (want : List Segment) (heard : HasHeard packets want)
      (segments : List Segment) → AllByRecursion (IsHad heard.segments) segments →
      HearsBodiesIn packets c size segments
  heard-bodies packets want heard early got =
      each-body packets heard.segments early c.objects heard.heard heard.of_turn got
      (bodies-once size laws c.directory turn.directory c.objects heard.segments
      (distinct-bodies c sound) (bodies-some size laws c.objects playable.bodies) heard.of_turn)
    where
      each-body : (packets : List (List ℕ)) (segments early : List Segment)
          (objects : List Object) → segments_heard packets ≡ Some segments →
          AreOfTurn size turn segments → AllByRecursion (IsHad segments) early →
          AllByRecursion (λ (o : Object).
          AllByRecursion (IsHad segments) (segments_of 4 o.tid size o.body) →
          entity_of (collected segments) 4 o.tid ≡ Some o.body) objects →
          AllByRecursion (λ (o : Object).
          own_segments 4 o.tid early ≡ segments_of 4 o.tid size o.body →
          HearsEntity packets 4 o.tid o.body) objects
      each-body packets segments early [] heard of_turn got once = tt
      each-body packets segments early (o ∷ objects) heard of_turn got once = (
        λ e. ap (λ (found : Option (List Segment)). found >>= λ (segments : List Segment).
            entity_of (collected segments) 4 o.tid) heard
            ∙ once.0 (subst (AllByRecursion (IsHad segments)) e
            (all-filter (IsHad segments) (λ (s : Segment). s.kind == 4 && s.tid == o.tid) early
            got)),
        each-body packets segments early objects heard of_turn got once.1,
      )

      distinct-bodies : (c : Carousel) → IsSound c → is_distinct (ids_of c.objects) ≡ true
      distinct-bodies c sound =
          (and_parts (not (contains (ids_of c.objects) c.directory))
          (is_distinct (ids_of c.objects)) sound.ids).1

  -- A directory that is asked for is heard whole, behind the longest group and the directories that
  -- are asked for.
  pub hears-directory : (place new : Place) (steps : List Step) (sents : List Sent)
      (packets : List (List ℕ)) → IsOnAir size turn place → keep_turn steps ≡ true →
      sent_by place steps ≡ Some (sents, new) → AreSent sents packets →
      asks_once steps ≡ true →
      until_asked steps + div_ceil (size + 11) place.room
      + asked_packets (packets_for place.room (directory_segments turn size)) steps
      ≤ suc (length sents) → HearsEntity packets 6 turn.tid turn.directory
  hears-directory place new steps sents packets on keep h are asks enough =
      heard-directory packets (hears-got place new sents packets (directory_segments turn size) on
      (finds size turn range.0 (has-directory c size) fit steps place sents new place.room on refl
      keep h asks enough) are)

  -- who hears what is to be sent, and one more turn, has the carousel
  pub hears-within : (place new : Place) (steps : List Step) (sents : List Sent)
      (packets : List (List ℕ)) → IsOnAir size turn place → keep_turn steps ≡ true →
      sent_by place steps ≡ Some (sents, new) → AreSent sents packets →
      group_left place.room place.under_way + packets_for place.room (to_send place)
      + packets_for place.room whole
      + asked_packets (packets_for place.room (directory_segments turn size)) steps
      ≤ length sents → HearsCarousel packets c size
  hears-within place new steps sents packets on keep h are enough =
      let next : List Segment = to_send place in
      let heard = hears-coming place new steps sents packets (next ++ whole) on keep h are
      ([], sym (append-nil (next ++ whole)))
      (all-append (IsHad whole) next whole (to_send-on size turn place on) (had-all whole))
      (omega (arith, enough, packets-append place.room next whole)) in
      heard-carousel packets (record {
        segments = heard.segments;
        heard = heard.heard;
        of_turn = heard.of_turn;
        got = all-behind (IsHad heard.segments) next whole heard.got;
      })

  -- and where the rest of the bodies is the end of them, the packets of one turn are enough
  pub hears-round : (place new : Place) (steps : List Step) (sents : List Sent)
      (packets : List (List ℕ)) → IsOnAir size turn place → keep_turn steps ≡ true →
      sent_by place steps ≡ Some (sents, new) → AreSent sents packets →
      IsRest size turn place.early (left_of place) →
      group_left place.room place.under_way + packets_for place.room (to_send place)
      + packets_for place.room whole
      + asked_packets (packets_for place.room (directory_segments turn size)) steps
      ≤ length sents + packets_for place.room (rest_of place) → HearsCarousel packets c size
  hears-round place new steps sents packets on keep h are (done, cut) enough =
      let next : List Segment = to_send place in
      let rest : List Segment = rest_of place in
      let directory : List Segment = directory_segments turn size in
      let front : List Segment = directory ++ done in
      let all : whole ≡ front ++ rest =
      ap (λ (ss : List Segment). directory ++ ss) cut ∙ sym (append_assoc directory done rest) in
      let both : AreOfTurn size turn (front ++ rest) =
      subst (AreOfTurn size turn) all (had-all whole) in
      let heard = hears-coming place new steps sents packets (next ++ front) on keep h are
      (rest, ap (λ (ss : List Segment). next ++ ss) all ∙ sym (append_assoc next front rest))
      (all-append (IsHad whole) next front (to_send-on size turn place on)
      (all-front (IsHad whole) front rest both))
      (omega (
        arith,
        enough,
        packets-append place.room next front,
        ap (packets_for place.room) all,
        packets-append place.room front rest,
      )) in
      heard-carousel packets (record {
        segments = heard.segments;
        heard = heard.heard;
        of_turn = heard.of_turn;
        got = subst (AllByRecursion (IsHad heard.segments)) (sym all)
            (all-append (IsHad heard.segments) front rest
            (all-behind (IsHad heard.segments) next front heard.got)
            (all-had (IsHad heard.segments) next rest
            (all-front (IsHad heard.segments) next front heard.got) (rest-to_send place)));
      })

  -- So the packets of a directory, of the bodies that come early and of a turn are enough.
  pub hears-settled : (place new : Place) (steps : List Step) (sents : List Sent)
      (packets : List (List ℕ)) → IsOnAir size turn place → keep_turn steps ≡ true →
      sent_by place steps ≡ Some (sents, new) → AreSent sents packets →
      IsRest size turn place.early (left_of place) →
      group_left place.room place.under_way
      + packets_for place.room (directory_segments turn size)
      + packets_for place.room (early_of place) + packets_for place.room whole
      + asked_packets (packets_for place.room (directory_segments turn size)) steps
      ≤ length sents → HearsCarousel packets c size
  hears-settled place new steps sents packets on keep h are rest enough =
      settled-cases (is_empty place.waiting) refl
    where
      left-waits : (u : Option UnderWay) → is_empty place.waiting ≡ false →
          left_with place u ≡ to_send place
      left-waits None e = refl
      left-waits (Some u) e =
          ap (λ (b : Bool). if b then segments_of_turn place.turn place.segment_size
          else place.waiting) (sym e)

      settled-cases : (b : Bool) → is_empty place.waiting ≡ b → HearsCarousel packets c size
      settled-cases true e =
          let next : to_send place ≡ whole =
          ap (λ (b : Bool). if b then segments_of_turn place.turn place.segment_size
          else place.waiting) e
          ∙ ap (λ (n : ℕ). segments_of_turn place.turn n) on.size_is
          ∙ ap (λ (t : Turn). segments_of_turn t size) on.turn_is in
          heard-carousel packets
          (hears-coming place new steps sents packets whole on keep h are
          (whole, ap (λ (ss : List Segment). ss ++ whole) next) (had-all whole)
          (omega (arith, enough)))
      settled-cases false e =
          let left : left_of place ≡ to_send place = left-waits place.under_way e in
          let cut : of_bodies (to_send place) ≡ early_of place ++ rest_of place =
          ap of_bodies (sym left)
          ∙ sym (take-append-drop place.early (of_bodies (left_of place))) in
          hears-round place new steps sents packets on keep h are rest
          (omega (
            arith,
            enough,
            front-all place.room (to_send place),
            few-to_send size turn place on,
            ap (packets_for place.room) cut,
            packets-append place.room (early_of place) (rest_of place),
          ))

  -- A change: the directory, and each body that comes early whole, are heard next.
  pub hears-change : (place new : Place) (steps : List Step) (sents : List Sent)
      (packets : List (List ℕ)) (others : List Segment) → IsOnAir size turn place →
      keep_turn steps ≡ true → sent_by place steps ≡ Some (sents, new) → AreSent sents packets →
      to_send place ≡ directory_segments turn size ++ (early_of place ++ others) →
      group_left place.room place.under_way
      + packets_for place.room (directory_segments turn size)
      + packets_for place.room (early_of place)
      + asked_packets (packets_for place.room (directory_segments turn size)) steps
      ≤ length sents →
      HearsEntity packets 6 turn.tid turn.directory
      × HearsBodiesIn packets c size (early_of place)
  hears-change place new steps sents packets others on keep h are comes enough =
      let directory : List Segment = directory_segments turn size in
      let early : List Segment = early_of place in
      let next : to_send place ≡ (directory ++ early) ++ others =
      comes ∙ sym (append_assoc directory early others) in
      let of_turn : AreOfTurn size turn ((directory ++ early) ++ others) =
      subst (AreOfTurn size turn) next (to_send-on size turn place on) in
      let heard = hears-coming place new steps sents packets (directory ++ early) on keep h are (
        others ++ whole,
        ap (λ (ss : List Segment). ss ++ whole) next
            ∙ append_assoc (directory ++ early) others whole,
      )
      (all-front (IsHad whole) (directory ++ early) others of_turn)
      (omega (arith, enough, packets-append place.room directory early)) in (
        heard-directory packets (record {
          segments = heard.segments;
          heard = heard.heard;
          of_turn = heard.of_turn;
          got = all-front (IsHad heard.segments) directory early heard.got;
        }),
        heard-bodies packets (directory ++ early) heard early
            (all-behind (IsHad heard.segments) directory early heard.got),
      )

  -- where a turn has ended it is left whole
  within-ended : (place : Place) → IsOnAir size turn place → HasEnded place →
      IsWithin [] place (left_of place) × (left_of place ≡ whole)
  within-ended place on ended =
      let left : left_of place ≡ segments_of_turn place.turn place.segment_size =
      ap (left_with place) ended.under_way
      ∙ ap (λ (ws : List Segment).
      if is_empty ws then segments_of_turn place.turn place.segment_size else ws) ended.waiting in
      let same : segments_of_turn place.turn place.segment_size ≡ whole =
      ap (λ (n : ℕ). segments_of_turn place.turn n) on.size_is
      ∙ ap (λ (t : Turn). segments_of_turn t size) on.turn_is in
      let here : segments_of_turn place.turn place.segment_size
      ≡ directory_segments place.turn place.segment_size
      ++ segments_of_bodies place.segment_size place.turn.bodies = refl in
      let fits : AllByRecursion IsFit (segments_of_turn place.turn place.segment_size) =
      subst (AllByRecursion IsFit) (sym same) fit in (
        record {
          keeps = on.keeps;
          room = on.room;
          size = subst (λ (n : ℕ). 0 < n) (sym on.size_is) range.0;
          some = subst (λ (t : Turn). 0 < length t.directory) (sym on.turn_is)
              (has-directory c size);
          directory = front-fit (directory_segments place.turn place.segment_size)
              (segments_of_bodies place.segment_size place.turn.bodies) fits;
          fit = subst (AllByRecursion IsFit) (sym left) fits;
          is_left = record {
            before = [];
            after = directory_segments place.turn place.segment_size;
            bodies = segments_of_bodies place.segment_size place.turn.bodies;
            cut = refl;
            all = left ∙ here;
            known = tt;
            are_bodies = bodies-bodies place.segment_size place.turn.bodies;
          };
        },
        left ∙ same,
      )

  -- a whole turn has all of its segments, and no other
  record HasTurn (packets : List PacketFields) : Type 0 where
    fields : List GroupFields
    gathered : groups_after [] packets ≡ Some (map bytes_of_group fields, [])
    are_groups : AllByRecursion IsGroup fields
    of_turn : AreOfTurn size turn (segments_in fields)
    all : AllByRecursion (IsHad (segments_in fields)) whole

  has-turn : (place new : Place) (steps : List Step) (sents : List Sent) →
      IsOnAir size turn place → HasEnded place → keep_turn steps ≡ true →
      sent_by place steps ≡ Some (sents, new) → ends_at_last sents ≡ true →
      HasTurn (packets_of sents)
  has-turn place new steps sents on ended keep h ends =
      let within = within-ended place on ended in
      let sends = steps-send steps [] place sents new within.0
      (subst (λ (u : Option UnderWay). IfSome u (λ (u : UnderWay). u.sent < length u.group))
      (sym ended.under_way) tt) keep h ends in
      let same : received [] (segments_in sends.groups) ≡ received [] whole =
      sends.once ∙ ap (received []) within.1 in
      record {
        fields = sends.groups;
        gathered = ap (λ (u : Option UnderWay). groups_after (front_of u) (packets_of sents))
            (sym ended.under_way)
            ∙ sends.gathered
            ∙ ap (λ (u : Option UnderWay). Some (group_of u ++ map bytes_of_group sends.groups, []))
            ended.under_way;
        are_groups = sends.are_groups;
        of_turn = among-received whole (segments_in sends.groups) (sym same);
        all = among-received (segments_in sends.groups) whole same;
      }

  -- from any packet on, up to the end of that turn and of the next, and further, the turn is heard
  ends-heard : (place mid end new : Place) (before turns after : List Step)
      (sents others more : List Sent) (packets : List (List ℕ)) → IsOnAir size turn place →
      keep_turn before ≡ true → keep_turn turns ≡ true → keep_turn after ≡ true →
      sent_by place before ≡ Some (sents, mid) → sent_by mid turns ≡ Some (others, end) →
      sent_by end after ≡ Some (more, new) → ends_at_last sents ≡ true →
      ends_at_last others ≡ true → AreSent (sents ++ (others ++ more)) packets →
      HasHeard packets whole
  ends-heard place mid end new before turns after sents others more packets on k0 k1 k2 h0 h1 h2
      e0 e1 are =
      let has : HasDirectory turn = has-directory c size in
      let mid_on = steps-on size turn range.0 has before place sents mid on k0 h0 in
      let end_on = steps-on size turn range.0 has turns mid others end mid_on k1 h1 in
      let mid_ended : HasEnded mid = steps-ended before place sents mid k0 h0 e0 in
      let end_ended : HasEnded end = steps-ended turns mid others end k1 h1 e1 in
      let first =
      (steps-hear size turn range.0 has fit before place sents mid on k0 h0).1.listens in
      let second : HasTurn (packets_of others) =
      has-turn mid end turns others mid_on mid_ended k1 h1 e1 in
      let third =
      (steps-hear size turn range.0 has fit after end more new end_on k2 h2).1.listens in
      let later : sent_by mid (turns ++ after) ≡ Some (others ++ more, new) =
      steps-go_on turns after mid end new others more h1 h2 in
      let all : sent_by place (before ++ (turns ++ after))
      ≡ Some (sents ++ (others ++ more), new) =
      steps-go_on before (turns ++ after) place mid new sents (others ++ more) h0 later in
      let behind : packets_of (others ++ more) ≡ packets_of others ++ packets_of more =
      map-append (λ (s : Sent). s.packet) others more in
      let row : packets_of (sents ++ (others ++ more))
      ≡ packets_of sents ++ (packets_of others ++ packets_of more) =
      map-append (λ (s : Sent). s.packet) sents (others ++ more)
      ∙ ap (λ (ps : List PacketFields). packets_of sents ++ ps) behind in
      let starts : from_first (packets_of others ++ packets_of more)
      ≡ packets_of others ++ packets_of more =
      subst (λ (ps : List PacketFields). from_first ps ≡ ps) behind
      (ended-begin mid_ended turns after others more k1 k2 later) in
      let third_whole : groups_after [] (packets_of more)
      ≡ Some (map bytes_of_group third.whole, third.rest) =
      ap (groups_after [])
      (sym (steps-begin after end more new end_ended.under_way k2 h2)) ∙ third.gathered in
      let first_whole : groups_after [] (from_first (packets_of sents))
      ≡ Some (map bytes_of_group first.whole, []) =
      first.gathered
      ∙ ap (λ (r : List ℕ). Some (map bytes_of_group first.whole, r))
      (first.ended mid_ended.under_way) in
      let fields : List GroupFields = first.whole ++ (second.fields ++ third.whole) in
      let bytes : map bytes_of_group first.whole
      ++ (map bytes_of_group second.fields ++ map bytes_of_group third.whole)
      ≡ map bytes_of_group fields =
      ap (λ (gs : List (List ℕ)). map bytes_of_group first.whole ++ gs)
      (sym (map-append bytes_of_group second.fields third.whole))
      ∙ sym (map-append bytes_of_group first.whole (second.fields ++ third.whole)) in
      let gathered : groups_after [] (from_first (packets_of (sents ++ (others ++ more))))
      ≡ Some (map bytes_of_group fields, third.rest) =
      ap (λ (ps : List PacketFields). groups_after [] (from_first ps)) row
      ∙ ap (groups_after [])
      (first-before (packets_of sents) (packets_of others ++ packets_of more) starts)
      ∙ groups-before (from_first (packets_of sents)) (packets_of others ++ packets_of more) []
      (map bytes_of_group first.whole)
      (map bytes_of_group second.fields ++ map bytes_of_group third.whole) third.rest first_whole
      (groups-before (packets_of others) (packets_of more) [] (map bytes_of_group second.fields)
      (map bytes_of_group third.whole) third.rest second.gathered third_whole)
      ∙ ap (λ (gs : List (List ℕ)). Some (gs, third.rest)) bytes in
      let heard : segments_heard packets ≡ Some (segments_in fields) =
      groups-heard place new (before ++ (turns ++ after)) (sents ++ (others ++ more)) packets
      fields third.rest all are gathered
      (groups-append first.whole (second.fields ++ third.whole) first.are_groups
      (groups-append second.fields third.whole second.are_groups third.are_groups)) in
      let xs : List Segment = segments_in first.whole in
      let ys : List Segment = segments_in second.fields in
      let zs : List Segment = segments_in third.whole in
      let split : segments_in fields ≡ xs ++ (ys ++ zs) =
      map-append (λ (g : GroupFields). g.segment) first.whole (second.fields ++ third.whole)
      ∙ ap (λ (ss : List Segment). xs ++ ss)
      (map-append (λ (g : GroupFields). g.segment) second.fields third.whole) in
      record {
        segments = xs ++ (ys ++ zs);
        heard = heard ∙ ap (λ (ss : List Segment). Some ss) split;
        of_turn = all-append (IsHad whole) xs (ys ++ zs) first.of_turn
            (all-append (IsHad whole) ys zs second.of_turn third.of_turn);
        got = had-behind xs (ys ++ zs) whole (had-front ys zs whole second.all);
      }
    where
      ended-begin : HasEnded mid → (turns after : List Step) (others more : List Sent) →
          keep_turn turns ≡ true → keep_turn after ≡ true →
          sent_by mid (turns ++ after) ≡ Some (others ++ more, new) →
          from_first (packets_of (others ++ more)) ≡ packets_of (others ++ more)
      ended-begin ended turns after others more k1 k2 later =
          steps-begin (turns ++ after) mid (others ++ more) new ended.under_way
          (keep-append turns after k1 k2) later

  -- what comes early is of the turn
  early-on : (place : Place) → IsOnAir size turn place → AreOfTurn size turn (early_of place)
  early-on place on =
      let bodies : List Segment = of_bodies (left_of place) in
      all-front (IsHad whole) (early_of place) (rest_of place)
      (subst (AllByRecursion (IsHad whole)) (sym (take-append-drop place.early bodies))
      (all-filter (IsHad whole) (λ (s : Segment). s.kind == 4) (left_of place) on.left))

  -- so it has the carousel, its directory, and the bodies that come early
  pub hears-two_ends : (place mid end new : Place) (before turns after : List Step)
      (sents others more : List Sent) (packets : List (List ℕ)) → IsOnAir size turn place →
      keep_turn before ≡ true → keep_turn turns ≡ true → keep_turn after ≡ true →
      sent_by place before ≡ Some (sents, mid) → sent_by mid turns ≡ Some (others, end) →
      sent_by end after ≡ Some (more, new) → ends_at_last sents ≡ true →
      ends_at_last others ≡ true → AreSent (sents ++ (others ++ more)) packets →
      HearsCarousel packets c size × HearsEntity packets 6 turn.tid turn.directory
      × HearsBodiesIn packets c size (early_of place)
  hears-two_ends place mid end new before turns after sents others more packets on k0 k1 k2 h0 h1 h2
      e0 e1 are =
      let heard = ends-heard place mid end new before turns after sents others more packets on k0 k1
      k2 h0 h1 h2 e0 e1 are in (
        heard-carousel packets heard,
        heard-directory packets (record {
          segments = heard.segments;
          heard = heard.heard;
          of_turn = heard.of_turn;
          got = all-front (IsHad heard.segments) (directory_segments turn size)
              (segments_of_bodies size turn.bodies) heard.got;
        }),
        heard-bodies packets whole heard (early_of place)
            (all-had (IsHad heard.segments) whole (early_of place) heard.got (early-on place on)),
      )
