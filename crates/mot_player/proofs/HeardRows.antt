-- Worked turns in which a directory comes between, and a changed turn is followed: which segments'
-- groups are begun, and where the turn ends.
use Rattle.std.proofs.Common.{◌≡◌, ℕ, List, [], ◌∷◌, ◌++◌, Bool, true, false, refl, map, replicate}
use Rattle.std.proofs.Common.{take}
use Rattle.std.specs.Prelude.{Option, Some, None}
use Rattle.mot_groups.specs.Group.{Segment, bytes_of_group}
use Rattle.mot_player.specs.Place.{Place, Step, Directory, Follow}
use Rattle.mot_player.specs.Place.{opened_place, request, sent_by, hear_directory, follow}
use Rattle.mot_player.specs.Staying.{begun_by}
use Rattle.mot_player.specs.Turn.{Turn}
use Rattle.mot_base.specs.Checksum.{crc_of, bits_of, bits_of_bytes, number_of_bits, added_to_front}
use Rattle.mot_base.specs.Checksum.{remainder}
use Rattle.mot_player.proofs.Rows.{ends_in, requests}

-- of segments: type, transport id and number
abbrev Seen : Type 0
Seen = ℕ × ℕ × ℕ

abbrev seen : Option (List Segment) → List Seen
seen None = []
seen (Some segments) =
    map {B = ℕ × ℕ × ℕ} (λ (s : Segment). (s.kind, s.tid, s.number)) segments

-- a directory of one segment of two bytes, a body of two segments, and one of one
abbrev old_turn : Turn
old_turn = record {
  tid = 9;
  directory = 1 ∷ 2 ∷ [];
  bodies = (2, 1 ∷ 2 ∷ 3 ∷ []) ∷ (4, 5 ∷ []) ∷ [];
}

-- a body of two segments and one of one are put behind; the second is replaced, and the first; the
-- second is gone; only the directory is another
abbrev turn_of : ℕ → List (ℕ × List ℕ) → Turn
turn_of tid bodies = record { tid = tid; directory = 1 ∷ 3 ∷ []; bodies = bodies }

abbrev put_turn : Turn
put_turn = turn_of 11 ((2, 1 ∷ 2 ∷ 3 ∷ []) ∷ (4, 5 ∷ []) ∷ (6, 7 ∷ 8 ∷ 9 ∷ []) ∷ [])

abbrev second_turn : Turn
second_turn = turn_of 11 ((2, 1 ∷ 2 ∷ 3 ∷ []) ∷ (6, 7 ∷ 8 ∷ 9 ∷ []) ∷ [])

abbrev first_turn : Turn
first_turn = turn_of 11 ((6, 7 ∷ 8 ∷ 9 ∷ []) ∷ (4, 5 ∷ []) ∷ [])

abbrev gone_turn : Turn
gone_turn = turn_of 11 ((2, 1 ∷ 2 ∷ 3 ∷ []) ∷ [])

abbrev same_turn : Turn
same_turn = turn_of 11 ((2, 1 ∷ 2 ∷ 3 ∷ []) ∷ (4, 5 ∷ []) ∷ [])

-- a player that follows, with so many bodies early that are not begun
abbrev start_with : ℕ → Place
start_with most = record (opened_place 1 91 2 old_turn) { follows = Some most }

abbrev start : Place
start = start_with 3

-- and with short packets, of which a group takes two
abbrev short_start : Place
short_start = record (opened_place 1 10 2 old_turn) { follows = Some 3 }

-- so many packets, the one that ends a turn, and so many more
abbrev one_end : ℕ → ℕ → List Bool
one_end before behind = replicate before false ++ true ∷ replicate behind false

-- a place and the steps there, which segments' groups they begin, and where turns end
abbrev Row : Type 0
Row = (Place × List Step) × (List Seen × List Bool)

abbrev row : Place → List Step → List Seen → List Bool → Row
row place steps begun ends = ((place, steps), (begun, ends))

-- what each row's steps begin and end
abbrev outcomes : List Row → List (List Seen × List Bool)
outcomes =
    map (λ (r : Row). (seen (begun_by r.0.0 r.0.1), ends_in (sent_by r.0.0 r.0.1)))

abbrev wanted : List Row → List (List Seen × List Bool)
wanted = map (λ (r : Row). r.1)

-- a directory that is asked for
abbrev between_rows : List Row
between_rows =
    -- the directory between two segments of one body: the body goes on, and the turn ends as before
    row start (requests 2 ++ Directory ∷ requests 4)
    ((6, 9, 0) ∷ (4, 2, 0) ∷ (6, 9, 0) ∷ (4, 2, 1) ∷ (4, 4, 0) ∷ (6, 9, 0) ∷ []) (one_end 4 1)
    -- asked for twice, or at the turn's end, it comes once
    ∷ row start (requests 2 ++ Directory ∷ Directory ∷ requests 3 ++ Directory ∷ requests 2)
    ((6, 9, 0) ∷ (4, 2, 0) ∷ (6, 9, 0) ∷ (4, 2, 1) ∷ (4, 4, 0) ∷ (6, 9, 0) ∷ (4, 2, 0) ∷ [])
    (one_end 4 2)
    -- with short packets, while the last group of a turn is under way: the turn ends with it
    ∷ row short_start (requests 7 ++ Directory ∷ requests 2)
    ((6, 9, 0) ∷ (4, 2, 0) ∷ (4, 2, 1) ∷ (4, 4, 0) ∷ (6, 9, 0) ∷ []) (one_end 7 1) ∷ []

between-rows : outcomes between_rows ≡ wanted between_rows
unfolding begun_by sent_by request hear_directory follow bytes_of_group crc_of bits_of
    bits_of_bytes number_of_bits added_to_front remainder
between-rows = refl

-- a changed turn that is followed
abbrev followed_rows : List Row
followed_rows =
    -- the directory alone has changed: it comes, and the turn goes on
    row start (requests 2 ++ Follow same_turn ∷ requests 4)
    ((6, 9, 0) ∷ (4, 2, 0) ∷ (6, 11, 0) ∷ (4, 2, 1) ∷ (4, 4, 0) ∷ (6, 11, 0) ∷ []) (one_end 4 1)
    -- a body that was put comes next and at the turn's end
    ∷ row start (requests 2 ++ Follow put_turn ∷ requests 8)
    ((6, 9, 0) ∷ (4, 2, 0) ∷ (6, 11, 0) ∷ (4, 6, 0) ∷ (4, 6, 1) ∷ (4, 2, 1) ∷ (4, 4, 0) ∷
    (4, 6, 0) ∷ (4, 6, 1) ∷ (6, 11, 0) ∷ []) (one_end 8 1)
    -- a replaced body whose place is to come comes next and in its place
    ∷ row start (requests 2 ++ Follow second_turn ∷ requests 7)
    ((6, 9, 0) ∷ (4, 2, 0) ∷ (6, 11, 0) ∷ (4, 6, 0) ∷ (4, 6, 1) ∷ (4, 2, 1) ∷ (4, 6, 0) ∷
    (4, 6, 1) ∷ (6, 11, 0) ∷ []) (one_end 7 1)
    -- of one that was begun the rest goes
    ∷ row start (requests 2 ++ Follow first_turn ∷ requests 6)
    ((6, 9, 0) ∷ (4, 2, 0) ∷ (6, 11, 0) ∷ (4, 6, 0) ∷ (4, 6, 1) ∷ (4, 4, 0) ∷ (6, 11, 0) ∷
    (4, 6, 0) ∷ []) (one_end 5 2)
    -- and where its place is passed it comes next alone
    ∷ row start (requests 3 ++ Follow first_turn ∷ requests 6)
    ((6, 9, 0) ∷ (4, 2, 0) ∷ (4, 2, 1) ∷ (6, 11, 0) ∷ (4, 6, 0) ∷ (4, 6, 1) ∷ (4, 4, 0) ∷
    (6, 11, 0) ∷ (4, 6, 0) ∷ []) (one_end 6 2)
    -- a body that is gone comes no more
    ∷ row start (requests 2 ++ Follow gone_turn ∷ requests 3)
    ((6, 9, 0) ∷ (4, 2, 0) ∷ (6, 11, 0) ∷ (4, 2, 1) ∷ (6, 11, 0) ∷ []) (one_end 3 1)
    -- nor where it was to come early, and had begun to
    ∷ row start (requests 2 ++ Follow put_turn ∷ requests 2 ++ Follow same_turn ∷ requests 4)
    ((6, 9, 0) ∷ (4, 2, 0) ∷ (6, 11, 0) ∷ (4, 6, 0) ∷ (6, 11, 0) ∷ (4, 2, 1) ∷ (4, 4, 0) ∷
    (6, 11, 0) ∷ []) (one_end 6 1)
    -- of two changes running the first that stays comes before the second
    ∷ row start (requests 2 ++ Follow put_turn ∷ Follow (turn_of 12 ((2, 1 ∷ 2 ∷ 3 ∷ []) ∷ (
      8,
      5 ∷
          [],
    ) ∷ (6, 7 ∷ 8 ∷ 9 ∷ []) ∷ [])) ∷ requests 9)
    ((6, 9, 0) ∷ (4, 2, 0) ∷ (6, 12, 0) ∷ (4, 6, 0) ∷ (4, 6, 1) ∷ (4, 8, 0) ∷ (4, 2, 1) ∷
    (4, 8, 0) ∷ (4, 6, 0) ∷ (4, 6, 1) ∷ (6, 12, 0) ∷ []) (one_end 9 1)
    -- a body that is replaced twice running comes once, and keeps its place
    ∷ row start (requests 2 ++ Follow second_turn ∷ requests 2 ++ Follow (turn_of 12 ((
      2,
      1 ∷ 2 ∷ 3
          ∷ [],
    ) ∷ (8, 5 ∷ []) ∷ [])) ∷ requests 5)
    ((6, 9, 0) ∷ (4, 2, 0) ∷ (6, 11, 0) ∷ (4, 6, 0) ∷ (6, 12, 0) ∷ (4, 8, 0) ∷ (4, 2, 1) ∷
    (4, 8, 0) ∷ (6, 12, 0) ∷ []) (one_end 7 1)
    -- a directory that is asked for while a changed body comes
    ∷ row start (requests 2 ++ Follow second_turn ∷ requests 2 ++ Directory ∷ requests 5)
    ((6, 9, 0) ∷ (4, 2, 0) ∷ (6, 11, 0) ∷ (4, 6, 0) ∷ (6, 11, 0) ∷ (4, 6, 1) ∷ (4, 2, 1) ∷
    (4, 6, 0) ∷ (4, 6, 1) ∷ []) (one_end 8 0)
    -- before the first packet
    ∷ row start (Follow put_turn ∷ requests 9)
    ((6, 11, 0) ∷ (4, 6, 0) ∷ (4, 6, 1) ∷ (4, 2, 0) ∷ (4, 2, 1) ∷ (4, 4, 0) ∷ (4, 6, 0) ∷
    (4, 6, 1) ∷ (6, 11, 0) ∷ []) (one_end 7 1)
    -- where a turn has ended
    ∷ row start (requests 4 ++ Follow second_turn ∷ requests 8)
    ((6, 9, 0) ∷ (4, 2, 0) ∷ (4, 2, 1) ∷ (4, 4, 0) ∷ (6, 11, 0) ∷ (4, 6, 0) ∷ (4, 6, 1) ∷
    (4, 2, 0) ∷ (4, 2, 1) ∷ (4, 6, 0) ∷ (4, 6, 1) ∷ (6, 11, 0) ∷ []) (one_end 3 6 ++ one_end 0 1)
    -- While the last group of a turn is under way: what was put or replaced comes behind the directory,
    -- and then the turn ends.
    ∷ row short_start (requests 7 ++ Follow put_turn ∷ requests 9)
    ((6, 9, 0) ∷ (4, 2, 0) ∷ (4, 2, 1) ∷ (4, 4, 0) ∷ (6, 11, 0) ∷ (4, 6, 0) ∷ (4, 6, 1) ∷
    (6, 11, 0) ∷ []) (one_end 13 2)
    ∷ row short_start (requests 7 ++ Follow second_turn ∷ requests 9)
    ((6, 9, 0) ∷ (4, 2, 0) ∷ (4, 2, 1) ∷ (4, 4, 0) ∷ (6, 11, 0) ∷ (4, 6, 0) ∷ (4, 6, 1) ∷
    (6, 11, 0) ∷ []) (one_end 13 2)
    ∷ row short_start (requests 7 ++ Follow gone_turn ∷ requests 5)
    ((6, 9, 0) ∷ (4, 2, 0) ∷ (4, 2, 1) ∷ (4, 4, 0) ∷ (6, 11, 0) ∷ (6, 11, 0) ∷ []) (one_end 9 2) ∷ []

followed-rows : outcomes followed_rows ≡ wanted followed_rows
unfolding begun_by sent_by request hear_directory follow bytes_of_group crc_of bits_of
    bits_of_bytes number_of_bits added_to_front remainder
followed-rows = refl

-- Many changes, of bodies of one segment each: so many are put behind the old ones, one of them is
-- replaced, or the first is gone.
abbrev many_turn : List (ℕ × List ℕ) → Turn
many_turn fresh = turn_of 11 ((2, 1 ∷ 2 ∷ 3 ∷ []) ∷ (4, 5 ∷ []) ∷ fresh)

abbrev fresh_bodies : List (ℕ × List ℕ)
fresh_bodies = (6, 1 ∷ []) ∷ (8, 2 ∷ []) ∷ (10, 3 ∷ []) ∷ (12, 4 ∷ []) ∷ (14, 5 ∷ []) ∷ []

abbrev five_puts : List Step
five_puts =
    map (λ (n : ℕ). Follow (many_turn (take n fresh_bodies))) (1 ∷ 2 ∷ 3 ∷ 4 ∷ 5 ∷ [])

abbrev many_rows : List Row
many_rows =
    -- of five bodies that are put in one look three come early, and all at the end
    row start (requests 2 ++ five_puts ++ requests 12)
    ((6, 9, 0) ∷ (4, 2, 0) ∷ (6, 11, 0) ∷ (4, 6, 0) ∷ (4, 8, 0) ∷ (4, 10, 0) ∷ (4, 2, 1) ∷
    (4, 4, 0) ∷ (4, 6, 0) ∷ (4, 8, 0) ∷ (4, 10, 0) ∷ (4, 12, 0) ∷ (4, 14, 0) ∷ (6, 11, 0) ∷ [])
    (one_end 12 1)
    -- one that waits early and is replaced makes room for the new one
    ∷ row start (requests 2 ++ five_puts ++ Follow (many_turn ((6, 1 ∷ []) ∷ (16, 6 ∷ []) ∷ (
      10,
      3
          ∷ [],
    ) ∷ (12, 4 ∷ []) ∷ (14, 5 ∷ []) ∷ [])) ∷ requests 12)
    ((6, 9, 0) ∷ (4, 2, 0) ∷ (6, 11, 0) ∷ (4, 6, 0) ∷ (4, 10, 0) ∷ (4, 16, 0) ∷ (4, 2, 1) ∷
    (4, 4, 0) ∷ (4, 6, 0) ∷ (4, 16, 0) ∷ (4, 10, 0) ∷ (4, 12, 0) ∷ (4, 14, 0) ∷ (6, 11, 0) ∷ [])
    (one_end 12 1)
    -- and one that waits only at the end does not, and keeps its place
    ∷ row start (requests 2 ++ five_puts ++ Follow (many_turn ((6, 1 ∷ []) ∷ (8, 2 ∷ []) ∷ (
      10,
      3 ∷
          [],
    ) ∷ (16, 6 ∷ []) ∷ (14, 5 ∷ []) ∷ [])) ∷ requests 12)
    ((6, 9, 0) ∷ (4, 2, 0) ∷ (6, 11, 0) ∷ (4, 6, 0) ∷ (4, 8, 0) ∷ (4, 10, 0) ∷ (4, 2, 1) ∷
    (4, 4, 0) ∷ (4, 6, 0) ∷ (4, 8, 0) ∷ (4, 10, 0) ∷ (4, 16, 0) ∷ (4, 14, 0) ∷ (6, 11, 0) ∷ [])
    (one_end 12 1)
    -- one that is begun leaves room for another: of one at most, a body of two segments is begun, and
    -- then one more comes early
    ∷ row (start_with 1) (requests 2 ++ Follow put_turn ∷ requests 2 ++ Follow (turn_of 11 ((
      2,
      1 ∷
          2 ∷ 3 ∷ [],
    ) ∷ (4, 5 ∷ []) ∷ (6, 7 ∷ 8 ∷ 9 ∷ []) ∷ (8, 2 ∷ []) ∷ [])) ∷ requests 9)
    ((6, 9, 0) ∷ (4, 2, 0) ∷ (6, 11, 0) ∷ (4, 6, 0) ∷ (6, 11, 0) ∷ (4, 6, 1) ∷ (4, 8, 0) ∷
    (4, 2, 1) ∷ (4, 4, 0) ∷ (4, 6, 0) ∷ (4, 6, 1) ∷ (4, 8, 0) ∷ (6, 11, 0) ∷ []) (one_end 11 1)
    -- with none early a body that is put comes at the end
    ∷ row (start_with 0) (requests 2 ++ Follow put_turn ∷ requests 6)
    ((6, 9, 0) ∷ (4, 2, 0) ∷ (6, 11, 0) ∷ (4, 2, 1) ∷ (4, 4, 0) ∷ (4, 6, 0) ∷ (4, 6, 1) ∷
    (6, 11, 0) ∷ []) (one_end 6 1)
    -- also where nothing of the rest is left, while the last group is under way
    ∷ row (record short_start { follows = Some 0 }) (requests 7 ++ Follow put_turn ∷ requests 9)
    ((6, 9, 0) ∷ (4, 2, 0) ∷ (4, 2, 1) ∷ (4, 4, 0) ∷ (6, 11, 0) ∷ (4, 6, 0) ∷ (4, 6, 1) ∷
    (6, 11, 0) ∷ []) (one_end 13 2)
    -- and in a turn of no bodies
    ∷ row (record (opened_place 1 91 2 (turn_of 9 [])) { follows = Some 0 }) (Follow (turn_of 11
    ((6, 1 ∷ []) ∷ [])) ∷ requests 3)
    ((6, 11, 0) ∷ (4, 6, 0) ∷ (6, 11, 0) ∷ []) (one_end 1 1) ∷ []

many-rows : outcomes many_rows ≡ wanted many_rows
unfolding begun_by sent_by request hear_directory follow bytes_of_group crc_of bits_of
    bits_of_bytes number_of_bits added_to_front remainder
many-rows = refl
