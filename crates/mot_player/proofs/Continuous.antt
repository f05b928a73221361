-- Whatever turns come between the requests, the packets have their continuity indexes.
use Rattle.std.proofs.Common.{◌≡◌, ℕ, ◌+◌, ◌%◌, ◌<◌, List, [], ◌∷◌, ◌++◌, Bool, true, false, Option}
use Rattle.std.proofs.Common.{Some, None, ◌⊎◌, inl, inr, refl, sym, subst, map, length, take, drop}
use Rattle.std.proofs.Common.{arith, ap, ◌∙◌, append-nil, eq-eqb}
use Rattle.std.proofs.lemmas.Bool.{ne_eqb}
use Rattle.std.proofs.lemmas.Option.{none-some, same_Some}
use Rattle.std.specs.Prelude.{◌==◌, filter, if◌then◌else◌, slice_index}
use Rattle.std.specs.List.{list_all, AllByRecursion}
use Rattle.mot_groups.proofs.Laws.{content_of-bytes_of_group}
use Rattle.mot_groups.specs.Entity.{numbered_segments, pieces, segments_of}
use Rattle.mot_groups.specs.Group.{Segment, GroupFields, content_of, segment_content}
use Rattle.mot_groups.specs.Group.{bytes_of_group}
use Rattle.mot_numbers.specs.Reading.{◌>>=◌, read_each, is_empty}
use Rattle.mot_packets.specs.Cut.{piece_at}
use Rattle.mot_packets.specs.Gather.{groups_after, gather_front}
use Rattle.mot_packets.specs.Packet.{PacketFields, read_packet}
use Rattle.mot_packets.proofs.Laws.{groups_after-last_piece, groups_after-piece, more_left}
use Rattle.mot_numbers.proofs.Laws.{>>=-some}
use Rattle.mot_player.specs.Continuity.{kind_of, group_index, contents, changes, index_after}
use Rattle.mot_player.specs.Continuity.{IsContinuous, indexes_after, packet_index, packet_indexes_from}
use Rattle.mot_player.specs.Laws.{AreSent, StepsAreContinuous}
use Rattle.mot_player.specs.Place.{Last, UnderWay, Place, Sent, Step, Request, NewTurn, Directory}
use Rattle.mot_player.specs.Place.{Change, Follow, change_between, early_after, next_index}
use Rattle.mot_player.specs.Place.{hear_directory, follow, directory_segments, of_bodies, group_for}
use Rattle.mot_player.specs.Place.{with_begun, packet_sent, first_sent, to_send, next_sent, request}
use Rattle.mot_player.specs.Place.{change_turn, sent_by, opened_place}
use Rattle.mot_player.specs.Turn.{Turn, segments_of_turn, segments_of_bodies}
use Rattle.mot_player.proofs.Followed.{AreBodies, bodies-early_after, bodies-renewed, renewed}
use Rattle.mot_player.proofs.Indexes.{IsLast, IsLast-next, contents-append, kind_of-group}
use Rattle.mot_player.proofs.Indexes.{group_index-group, some_bytes-group}
use Rattle.mot_player.proofs.Requests.{FirstRequest, first_request, no_steps, packets_of}
use Rattle.mot_player.proofs.Requests.{place_behind}
use Rattle.mot_player.proofs.Addresses.{one_address}
use Rattle.mot_player.proofs.UnderWay.{front_of, group_of}

-- a segment of a directory or of a body
abbrev pub IsKind : Segment → Type 0
IsKind s = (s.kind ≡ 6) ⊎ (s.kind ≡ 4)

AreKinds-numbered_segments : (kind tid number : ℕ) (ps : List (List ℕ)) → (kind ≡ 6) ⊎ (kind ≡ 4) →
    AllByRecursion IsKind (numbered_segments kind tid number ps)
AreKinds-numbered_segments kind tid number [] k = tt
AreKinds-numbered_segments kind tid number (p ∷ ps) k =
    (k, AreKinds-numbered_segments kind tid (number + 1) ps k)

AreKinds-append : (xs ys : List Segment) → AllByRecursion IsKind xs → AllByRecursion IsKind ys →
    AllByRecursion IsKind (xs ++ ys)
AreKinds-append [] ys p q = q
AreKinds-append (x ∷ xs) ys p q = (p.0, AreKinds-append xs ys p.1 q)

AreKinds-bodies : (size : ℕ) (bodies : List (ℕ × List ℕ))
    → AllByRecursion IsKind (segments_of_bodies size bodies)
AreKinds-bodies size [] = tt
AreKinds-bodies size (b ∷ bodies) =
    AreKinds-append (segments_of 4 b.0 size b.1) (segments_of_bodies size bodies)
    (AreKinds-numbered_segments 4 b.0 0 (pieces size b.1) (inr refl)) (AreKinds-bodies size bodies)

kinds-of_cases : (b : Bool) (xs ys : List Segment) → AllByRecursion IsKind xs
    → AllByRecursion IsKind ys →
    AllByRecursion IsKind (if b then xs else ys)
kinds-of_cases b xs ys p q = grind arith

kept-kinds : (b : Bool) (x : Segment) (xs : List Segment) → IsKind x →
    AllByRecursion IsKind xs → AllByRecursion IsKind (if b then x ∷ xs else xs)
kept-kinds b x xs k ks = grind arith

-- each segment of a turn is of one of the two types
pub AreKinds-turn : (turn : Turn) (size : ℕ) → AllByRecursion IsKind (segments_of_turn turn size)
AreKinds-turn turn size =
    AreKinds-append (segments_of 6 turn.tid size turn.directory)
    (segments_of_bodies size turn.bodies)
    (AreKinds-numbered_segments 6 turn.tid 0 (pieces size turn.directory) (inl refl))
    (AreKinds-bodies size turn.bodies)

-- and so are some of them
pub AreKinds-filter : (p : Segment → Bool) (xs : List Segment) → AllByRecursion IsKind xs →
    AllByRecursion IsKind (filter p xs)
AreKinds-filter p [] k = tt
AreKinds-filter p (x ∷ xs) k =
    kept-kinds (p x) x (filter p xs) k.0 (AreKinds-filter p xs k.1)

-- of a place whose waiting segments are, so are those that it sends
pub AreKinds-to_send : (place : Place) → AllByRecursion IsKind place.waiting →
    AllByRecursion IsKind (to_send place)
AreKinds-to_send place k = grind (arith, kinds-of_cases, AreKinds-turn)

-- and those of bodies
AreKinds-of_bodies : (xs : List Segment) → AreBodies xs → AllByRecursion IsKind xs
AreKinds-of_bodies [] k = tt
AreKinds-of_bodies (x ∷ xs) k = (inr k.0, AreKinds-of_bodies xs k.1)

AreKinds-directory : (turn : Turn) (size : ℕ)
    → AllByRecursion IsKind (directory_segments turn size)
AreKinds-directory turn size =
    AreKinds-numbered_segments 6 turn.tid 0 (pieces size turn.directory) (inl refl)

abbrev IsInside : List (List ℕ) → Option UnderWay → Type 0
IsInside before None = Unit {0}
IsInside before (Some u) = (u.sent < length u.group)
    × (group_index u.group ≡ index_after before u.group)

-- the place, n packets and these whole groups having been sent
record Stands (before : List (List ℕ)) (n : ℕ) (place : Place) (u : Option UnderWay) : Type 0 where
  inside : IsInside before u
  directory : IsLast place.last_directory (contents 6 (before ++ group_of u))
  body : IsLast place.last_body (contents 4 (before ++ group_of u))
  kinds : AllByRecursion IsKind place.waiting
  index : place.index ≡ n % 4
  room : 0 < place.room

abbrev counted : ℕ → List PacketFields → List ℕ
counted n [] = []
counted n (p ∷ packets) = n % 4 ∷ counted (n + 1) packets

-- what packets are behind n packets, these whole groups and the front of one more
record Continues (before : List (List ℕ)) (n : ℕ) (front : List ℕ) (address : ℕ)
    (packets : List PacketFields) : Type 0 where
  groups : List (List ℕ)
  begun : List ℕ
  gathered : groups_after front packets ≡ Some (groups, begun)
  group_indexes : map group_index groups ≡ indexes_after before groups
  addresses : list_all (λ (q : PacketFields). q.address == address) packets ≡ true
  packet_indexes : map (λ (q : PacketFields). q.index) packets ≡ counted n packets

cons_eq : {A : Type 0} (x y : A) (xs ys : List A) → x ≡ y → xs ≡ ys → x ∷ xs ≡ y ∷ ys
cons_eq x y xs ys p q = cc

Continues-none : (before : List (List ℕ)) (n : ℕ) (front : List ℕ) (address : ℕ)
    → Continues before n front address []
unfolding groups_after
Continues-none before n front address = record {
  groups = [];
  begun = front;
  gathered = refl;
  group_indexes = refl;
  addresses = refl;
  packet_indexes = refl;
}

module _ (before : List (List ℕ)) (n room address index at : ℕ) (group : List ℕ)
    (packets : List PacketFields)
    (r : 0 < room) (l : at < length group) (i : index ≡ n % 4) where
  abbrev piece : PacketFields
  piece = piece_at room address index group at

  Continues-last : piece.last ≡ true → group_index group ≡ index_after before group →
      Continues (before ++ group ∷ []) (n + 1) [] address packets →
      Continues before n (take at group) address (piece ∷ packets)
  Continues-last last e rest = record {
    groups = group ∷ rest.groups;
    begun = rest.begun;
    gathered = groups_after-last_piece room address index at group packets rest.groups rest.begun r
        l last rest.gathered;
    group_indexes = cons_eq (group_index group) (index_after before group)
        (map group_index rest.groups)
        (indexes_after (before ++ group ∷ []) rest.groups) e rest.group_indexes;
    addresses = rw (eq-eqb address address refl) rest.addresses;
    packet_indexes = cons_eq index (n % 4) (map (λ (q : PacketFields). q.index) packets)
        (counted (n + 1) packets)
        i rest.packet_indexes;
  }

  Continues-more : piece.last ≡ false
      → Continues before (n + 1) (take (at + room) group) address packets →
      Continues before n (take at group) address (piece ∷ packets)
  Continues-more last rest = record {
    groups = rest.groups;
    begun = rest.begun;
    gathered = groups_after-piece room address index at group packets rest.groups rest.begun r l
        last rest.gathered;
    group_indexes = rest.group_indexes;
    addresses = rw (eq-eqb address address refl) rest.addresses;
    packet_indexes = cons_eq index (n % 4) (map (λ (q : PacketFields). q.index) packets)
        (counted (n + 1) packets)
        i rest.packet_indexes;
  }

-- what the steps behind a place send continues what was sent, wherever it stands
abbrev ContinuesFrom : List Step → Type 0
ContinuesFrom steps =
    (before : List (List ℕ)) (n : ℕ) (place : Place) (sents : List Sent) (new : Place) →
    Stands before n place place.under_way → sent_by place steps ≡ Some (sents, new) →
    Continues before n (front_of place.under_way) place.address (packets_of sents)

-- the next packet of a group
module _ (steps : List Step) (ih : ContinuesFrom steps) (before : List (List ℕ)) (n : ℕ)
    (place : Place)
    (group : List ℕ) (at : ℕ) (others : List Sent) (new : Place) (l : at < length group)
    (e : group_index group ≡ index_after before group)
    (d : IsLast place.last_directory (contents 6 (before ++ group ∷ [])))
    (b : IsLast place.last_body (contents 4 (before ++ group ∷ [])))
    (k : AllByRecursion IsKind place.waiting) (i : place.index ≡ n % 4) (r : 0 < place.room) where
  packet-continues : (last : Bool)
      → (piece_at place.room place.address place.index group at).last ≡ last →
      sent_by (place_behind place group at last) steps ≡ Some (others, new) →
      Continues before n (take at group) place.address
      (piece_at place.room place.address place.index group at ∷ packets_of others)
  packet-continues true last h =
      let whole : before ++ group ∷ [] ≡ (before ++ group ∷ []) ++ [] =
      sym (append-nil (before ++ group ∷ [])) in
      Continues-last before n place.room place.address place.index at group (packets_of others) r l
      i last e
      (ih (before ++ group ∷ []) (n + 1) (place_behind place group at true) others new
      (record {
        inside = tt;
        directory = subst (λ gs. IsLast place.last_directory (contents 6 gs)) whole d;
        body = subst (λ gs. IsLast place.last_body (contents 4 gs)) whole b;
        kinds = k;
        index = omega arith;
        room = r;
      }) h)
  packet-continues false last h =
      Continues-more before n place.room place.address place.index at group (packets_of others) r l
      i last
      (ih before (n + 1) (place_behind place group at false) others new
      (record {
        inside = (more_left place.room place.address place.index at group last, e);
        directory = d;
        body = b;
        kinds = k;
        index = omega arith;
        room = r;
      }) h)

-- what a group that begins leaves of each type
begun-directory : (is_directory : Bool) (directory body : Option Last) (content : List ℕ)
    (cs : List (List ℕ)) →
    IsLast directory cs →
    IsLast (if is_directory then Some (record {
      index = next_index (if is_directory then directory else body) content;
      content = content;
    }) else directory) (cs ++ (if is_directory then content ∷ [] else []))
begun-directory true directory body content cs h = IsLast-next directory cs content h
begun-directory false directory body content cs h = subst (IsLast directory) (sym (append-nil cs)) h

begun-body : (is_directory : Bool) (directory body : Option Last) (content : List ℕ)
    (cs : List (List ℕ)) →
    IsLast body cs →
    IsLast (if is_directory then body else Some (record {
      index = next_index (if is_directory then directory else body) content;
      content = content;
    })) (cs ++ (if is_directory then [] else content ∷ []))
begun-body true directory body content cs h = subst (IsLast body) (sym (append-nil cs)) h
begun-body false directory body content cs h = IsLast-next body cs content h

contents-test : (g : GroupFields) (b : Bool)
    → map content_of (if b then bytes_of_group g ∷ [] else [])
    ≡ (if b then segment_content g.segment ∷ [] else [])
contents-test g true = ap (λ c. c ∷ []) (content_of-bytes_of_group g)
contents-test g false = refl

-- the contents of a type, with one more group
pub contents-one : (kind : ℕ) (g : GroupFields) → g.segment.kind < 16 →
    contents kind (bytes_of_group g ∷ [])
    ≡ (if g.segment.kind == kind then segment_content g.segment ∷ [] else [])
contents-one kind g k = rw (kind_of-group g k) (contents-test g (g.segment.kind == kind))

one_type : (s : Segment) → IsKind s → (xs ys : List (List ℕ)) →
    (if s.kind == 4 then xs else ys) ≡ (if s.kind == 6 then ys else xs)
one_type s h1 xs ys = grind arith

-- each of the two types fits in four bits
pub kind-fits : (s : Segment) → IsKind s → s.kind < 16
kind-fits s h1 = grind arith

-- the index of a group that begins
group-index : (before : List (List ℕ)) (g : GroupFields) (kind : ℕ) (last : Option Last)
    → g.segment.kind ≡ kind → kind < 16 →
    g.index ≡ next_index last (segment_content g.segment) → IsLast last (contents kind before) →
    group_index (bytes_of_group g) ≡ index_after before (bytes_of_group g)
group-index before g kind last k fits i h =
    let next = IsLast-next last (contents kind before) (segment_content g.segment) h in
    let own : kind_of (bytes_of_group g) ≡ kind = kind_of-group g (omega arith) ∙ k in
    let test : (g.segment.kind == kind) ≡ true = eq-eqb g.segment.kind kind k in
    let one : contents kind (bytes_of_group g ∷ []) ≡ segment_content g.segment ∷ [] =
    contents-one kind g (omega arith)
    ∙ ap (λ b. if b then segment_content g.segment ∷ [] else []) test in
    let all : contents kind (before ++ bytes_of_group g ∷ [])
    ≡ contents kind before ++ segment_content g.segment ∷ [] =
    contents-append kind before (bytes_of_group g ∷ [])
    ∙ ap (λ cs. contents kind before ++ cs) one in
    group_index-group g ∙ i ∙ next.2 ∙ ap (λ cs. changes cs % 16) (sym all)
    ∙ ap (λ k. changes (contents k (before ++ bytes_of_group g ∷ [])) % 16) (sym own)

-- the contents of both types behind a group that begins
contents-directory : (before : List (List ℕ)) (g : GroupFields) → IsKind g.segment →
    contents 6 (before ++ bytes_of_group g ∷ [])
    ≡ contents 6 before ++ (if g.segment.kind == 6 then segment_content g.segment ∷ [] else [])
contents-directory before g k =
    grind (arith, contents-append, contents-one, kind-fits)

contents-body : (before : List (List ℕ)) (g : GroupFields) → IsKind g.segment →
    contents 4 (before ++ bytes_of_group g ∷ [])
    ≡ contents 4 before ++ (if g.segment.kind == 6 then [] else segment_content g.segment ∷ [])
contents-body before g k =
    grind (arith, contents-append, contents-one, kind-fits, one_type)

index-of_begun : (before : List (List ℕ)) (place : Place) (s : Segment) → IsKind s →
    IsLast place.last_directory (contents 6 before) → IsLast place.last_body (contents 4 before) →
    group_index (bytes_of_group (group_for place s))
    ≡ index_after before (bytes_of_group (group_for place s))
index-of_begun before place s (inl six) d b =
    group-index before (group_for place s) 6 place.last_directory six (omega arith)
    (ap (λ t. next_index (if t then place.last_directory else place.last_body) (segment_content s))
    (eq-eqb s.kind 6 six)) d
index-of_begun before place s (inr four) d b =
    group-index before (group_for place s) 4 place.last_body four (omega arith)
    (ap (λ t. next_index (if t then place.last_directory else place.last_body) (segment_content s))
    (ne_eqb s.kind 6 (λ e. omega arith))) b

-- the first packet of the group of the first segment that waits
begun-continues : (steps : List Step) → ContinuesFrom steps
    → (before : List (List ℕ)) (n : ℕ) (place : Place)
    (segments : List Segment) (s : Sent) (others : List Sent) (new : Place)
    → Stands before n place None →
    AllByRecursion IsKind segments → first_sent place segments ≡ Some s
    → sent_by s.place steps ≡ Some (others, new) →
    Continues before n [] place.address (s.packet ∷ packets_of others)
begun-continues steps ih before n place [] s others new st k e h = absurd (none-some s e)
begun-continues steps ih before n place (t ∷ segments) s others new st k e h =
    let group : GroupFields = group_for place t in
    let begun : Place = with_begun place group segments in
    let first : Sent = packet_sent begun (bytes_of_group group) 0 in
    let whole : before ++ [] ≡ before = append-nil before in
    let d : IsLast place.last_directory (contents 6 before) =
    subst (λ gs. IsLast place.last_directory (contents 6 gs)) whole st.directory in
    let b : IsLast place.last_body (contents 4 before) =
    subst (λ gs. IsLast place.last_body (contents 4 gs)) whole st.body in
    let is_directory : Bool = t.kind == 6 in
    let d' : IsLast begun.last_directory (contents 6 (before ++ bytes_of_group group ∷ [])) =
    subst (IsLast begun.last_directory) (sym (contents-directory before group k.0))
    (begun-directory is_directory place.last_directory place.last_body (segment_content t)
    (contents 6 before) d) in
    let b' : IsLast begun.last_body (contents 4 (before ++ bytes_of_group group ∷ [])) =
    subst (IsLast begun.last_body) (sym (contents-body before group k.0))
    (begun-body is_directory place.last_directory place.last_body (segment_content t)
    (contents 4 before) b) in
    subst (λ (x : Sent). sent_by x.place steps ≡ Some (others, new) →
    Continues before n [] place.address (x.packet ∷ packets_of others)) (same_Some first s e)
    (λ later. packet-continues steps ih before n begun (bytes_of_group group) 0 others new
    (some_bytes-group group)
    (index-of_begun before place t k.0 d b) d' b' k.1 st.index st.room first.packet.last refl later)
    h

next-continues : (steps : List Step) → ContinuesFrom steps
    → (before : List (List ℕ)) (n : ℕ) (place : Place)
    (u : Option UnderWay) (s : Sent) (others : List Sent) (new : Place) → Stands before n place u →
    next_sent place u ≡ Some s → sent_by s.place steps ≡ Some (others, new) →
    Continues before n (front_of u) place.address (s.packet ∷ packets_of others)
next-continues steps ih before n place None s others new st e h =
    begun-continues steps ih before n place (to_send place) s others new st
    (AreKinds-to_send place st.kinds) e h
next-continues steps ih before n place (Some u) s others new st e h =
    let first : Sent = packet_sent place u.group u.sent in
    subst (λ (x : Sent). sent_by x.place steps ≡ Some (others, new) →
    Continues before n (take u.sent u.group) place.address (x.packet ∷ packets_of others))
    (same_Some first s e)
    (λ later. packet-continues steps ih before n place u.group u.sent others new st.inside.0
    st.inside.1 st.directory
    st.body st.kinds st.index st.room first.packet.last refl later) h

steps-continue : (steps : List Step) → ContinuesFrom steps
unfolding sent_by request change_turn hear_directory follow
steps-continue [] before n place sents new st h =
    subst (λ l. Continues before n (front_of place.under_way) place.address (packets_of l))
    (no_steps place sents new h)
    (Continues-none before n (front_of place.under_way) place.address)
steps-continue (Request ∷ steps) before n place sents new st h =
    let q : FirstRequest place steps sents new = first_request place steps sents new h in
    subst (λ l. Continues before n (front_of place.under_way) place.address (packets_of l))
    (sym q.all)
    (next-continues steps (steps-continue steps) before n place place.under_way q.first q.others new
    st q.asked q.rest)
steps-continue (NewTurn turn ∷ steps) before n place sents new st h =
    steps-continue steps before n (change_turn turn place) sents new (record {
      inside = st.inside;
      directory = st.directory;
      body = st.body;
      kinds = AreKinds-turn turn place.segment_size;
      index = st.index;
      room = st.room;
    }) h
steps-continue (Directory ∷ steps) before n place sents new st h =
    steps-continue steps before n (hear_directory place) sents new (record {
      inside = st.inside;
      directory = st.directory;
      body = st.body;
      kinds = kinds-of_cases (is_empty place.waiting) []
          (directory_segments place.turn place.segment_size ++ of_bodies place.waiting) tt
          (AreKinds-append (directory_segments place.turn place.segment_size)
          (of_bodies place.waiting) (AreKinds-directory place.turn place.segment_size)
          (AreKinds-filter (λ (s : Segment). s.kind == 4) place.waiting st.kinds));
      index = st.index;
      room = st.room;
    }) h
steps-continue (Follow turn ∷ steps) before n place sents new st h =
    let change : Change = change_between place.turn.bodies turn.bodies in
    let directory : List Segment = directory_segments turn place.segment_size in
    let early : List Segment = early_after change place in
    steps-continue steps before n (follow turn place) sents new (record {
      inside = st.inside;
      directory = st.directory;
      body = st.body;
      kinds = AreKinds-append (directory ++ early) (renewed change place)
          (AreKinds-append directory early (AreKinds-directory turn place.segment_size)
          (AreKinds-of_bodies early (bodies-early_after change place)))
          (AreKinds-of_bodies (renewed change place) (bodies-renewed change place));
      index = st.index;
      room = st.room;
    }) h

packets-counted : (n : ℕ) (packets : List (List ℕ)) (fields : List PacketFields) →
    read_each read_packet packets ≡ Some fields
    → map (λ (q : PacketFields). q.index) fields ≡ counted n fields →
    read_each packet_index packets ≡ Some (packet_indexes_from n packets)
packets-counted n [] fields e i = refl
packets-counted n (p ∷ packets) fields e i =
    let one = >>=-some (read_packet p)
    (λ (y : PacketFields). read_each read_packet packets >>= λ (ys : List PacketFields).
    Some (y ∷ ys)) fields e in
    let two = >>=-some (read_each read_packet packets)
    (λ (ys : List PacketFields). Some (one.0 ∷ ys)) fields one.2 in
    let all : one.0 ∷ two.0 ≡ fields = same_Some (one.0 ∷ two.0) fields two.2 in
    let split : one.0.index ∷ map (λ (q : PacketFields). q.index) two.0
    ≡ n % 4 ∷ counted (n + 1) two.0 =
    ap (map (λ (q : PacketFields). q.index)) all ∙ i ∙ ap (counted n) (sym all) in
    let here : one.0.index ≡ n % 4 = ap (λ l. slice_index l 0) split in
    let later = packets-counted (n + 1) packets two.0 two.1 (ap (drop 1) split) in
    rw (one.1, later, here) refl

-- whatever turns come between requests, the packets have their continuity indexes, if nothing was
-- begun, and what waits are segments of a directory and of bodies
pub steps-from_opened : (address room size : ℕ) (turn : Turn) (follows : Option ℕ)
    (waiting : List Segment) (early : ℕ) (steps : List Step) (sents : List Sent) (new : Place)
    (packets : List (List ℕ)) → 0 < room → AllByRecursion IsKind waiting →
    sent_by (record (opened_place address room size turn) {
      follows = follows;
      waiting = waiting;
      early = early;
    }) steps ≡ Some (sents, new) → AreSent sents packets → IsContinuous packets
unfolding gather_front
steps-from_opened address room size turn follows waiting early steps sents new packets r kinds h
    sent =
    let c = steps-continue steps [] 0 (record (opened_place address room size turn) {
      follows = follows;
      waiting = waiting;
      early = early;
    }) sents new (record {
      inside = tt;
      directory = refl;
      body = refl;
      kinds = kinds;
      index = refl;
      room = r;
    }) h in
    record {
      groups = c.groups;
      begun = c.begun;
      gathered = rw (sent, one_address address (packets_of sents) c.addresses, c.gathered) refl;
      packet_indexes = packets-counted 0 packets (packets_of sents) sent c.packet_indexes;
      group_indexes = c.group_indexes;
    }

pub steps-are-continuous : StepsAreContinuous
steps-are-continuous address room size turn follows steps sents new packets r h sent =
    steps-from_opened address room size turn follows [] 0 steps sents new packets r tt h sent
