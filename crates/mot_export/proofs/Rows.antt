-- Frames filled, as they were measured behind a multiplexer.
use Rattle.std.proofs.Common.{◌≡◌, true, false, [], ◌∷◌, None, Some, replicate, refl}
use Rattle.std.specs.Prelude.{codes}
use Rattle.mot_player.specs.Turn.{Turn}
use Rattle.mot_listening.specs.Lengths.{frame_size, lengths_of_turn}
use Rattle.mot_export.specs.Filling.{frames_of}
use Rattle.json.specs.Print.{escape_byte, print_from}
use Rattle.json.specs.Token.{boolean, null, string}
use Rattle.mot_export.specs.Inspecting.{filled_above, filled_below, time_in}
use Rattle.mot_export.specs.Json.{json_line}

-- forty objects of 90 bytes, with names of three
abbrev small : Turn
small = record {
  tid = 1;
  directory = replicate 693 0;
  bodies = replicate 40 (2, replicate 90 0);
}

-- at 32 kbit/s they were 2.11 seconds in packets of 96 bytes, and 2.18 in those of 72
frames-96 : (frames_of (frame_size 32) (lengths_of_turn 91 1024 small)).begun ≡ 88
frames-96 = refl

frames-72 : (frames_of (frame_size 32) (lengths_of_turn 67 1024 small)).begun ≡ 91
frames-72 = refl

-- at 8 and 16 kbit/s no packet of 96 bytes is sent, and at 16 one of 48
never-8 : (frames_of (frame_size 8) (96 ∷ 24 ∷ [])).fits ≡ false
never-8 = refl

never-16 : (frames_of (frame_size 16) (96 ∷ 24 ∷ [])).fits ≡ false
never-16 = refl

sent-16 : (frames_of (frame_size 16) (48 ∷ 24 ∷ 24 ∷ [])).fits ≡ true
sent-16 = refl

-- at 48 kbit/s a frame has one packet of 96 bytes, and two of 72
one-96 : (frames_of (frame_size 48) (96 ∷ 96 ∷ 96 ∷ [])).begun ≡ 3
one-96 = refl

two-72 : (frames_of (frame_size 48) (72 ∷ 72 ∷ 72 ∷ 72 ∷ [])).begun ≡ 2
two-72 = refl

-- a short packet behind long ones fills their frame
filled : (frames_of (frame_size 40) (96 ∷ 24 ∷ 96 ∷ 24 ∷ [])).begun ≡ 2
filled = refl

-- beside 1,024 bytes the groups of these segments fill packets of 96 bytes
below : filled_below 1024 91 ≡ Some 990
below = refl

above : filled_above 1024 91 ≡ Some 1081
above = refl

-- no disk has segments of fewer than 64 bytes
none_below : filled_below 64 91 ≡ None
none_below = refl

-- packets of 96 bytes fit in no frame of 8 kbit/s
too_long : time_in 8 (96 ∷ 24 ∷ []) ≡ None
too_long = refl

lasts : time_in 32 (lengths_of_turn 91 1024 small) ≡ Some 2112
lasts = refl

-- an object of a text, a truth and nothing
in_json : json_line ((codes "name", string (codes "a\"b")) ∷ (codes "clean", boolean true)
    ∷ (codes "mime", null) ∷ []) ≡ codes "{\"name\":\"a\\\"b\",\"clean\":true,\"mime\":null}\n"
unfolding print_from escape_byte
in_json = refl
