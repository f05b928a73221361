-- The bytes of replies say where each of them ends: of two ways to cut them into whole replies to
-- the same lines one is the other. So the commands done are a function of what was read and
-- written.
use Rattle.std.proofs.Common.{◌≡◌, ◌⊎◌, inl, inr, ⊎_elim, ℕ, zero, suc, ◌+◌, ◌-◌, ◌*◌, ◌/◌, ◌%◌}
use Rattle.std.proofs.Common.{◌≤◌, ◌<◌, Bool, true, false, List, [], ◌∷◌, ◌++◌, length, map}
use Rattle.std.proofs.Common.{replicate, Option, Some, None, Result, Ok, Err, refl, sym, ap, ◌∙◌}
use Rattle.std.proofs.Common.{subst, arith, append_assoc, append-nil, get_or}
use Rattle.std.proofs.lemmas.Bool.{eq-eqb, ltb-true, ne_eqb}
use Rattle.std.proofs.lemmas.List.Elements.{All-append, All-cons, All-from_recursion, All-head}
use Rattle.std.proofs.lemmas.List.Elements.{All-nil, All-tail}
use Rattle.std.proofs.lemmas.Grind.{div_ceil_times}
use Rattle.std.proofs.lemmas.List.{append_cancel_left, length-map, length-replicate}
use Rattle.std.specs.Int.{div_ceil}
use Rattle.std.specs.List.{AllByRecursion, flat_map, list_any}
use Rattle.std.specs.Prelude.{◌&&◌, ◌||◌, ⊤, All, bytes_eq, codes, decimal, nat_eq, nat_le, nat_lt}
use Rattle.std.specs.Prelude.{if◌then◌else◌}
use Rattle.hex.specs.Hex.{decode_of, encode_lower, encode_with, lower_digits}
use Rattle.mot_lines.specs.declared.line.Line.{Line}
use Rattle.mot_lines.specs.declared.line.Line.TheVariants as asks
use Rattle.mot_lines.specs.declared.line.TheConstants.{MAX_LINE, MAX_PACKETS}
use Rattle.mot_lines.specs.Fields.{kind_in, name_in, number_to, period_in, segment_in}
use Rattle.mot_lines.specs.Fields.{number_of_word, words_of}
use Rattle.mot_lines.specs.Line.{alone_of, description_of, line_of, next_of, period_of, put_of}
use Rattle.mot_lines.specs.Line.{asked_by, raw_of, replace_of, request_of, withdraw_of}
use Rattle.mot_numbers.specs.Refusal.{◌>>=◌, name_of, number_of}
use Rattle.mot_lines.specs.Verb.{verb_of}
use Rattle.mot_lines.specs.declared.line.verb.Verb.{Verb}
use Rattle.mot_lines.specs.declared.line.verb.Verb.TheVariants as verb
use Rattle.mot_objects.specs.declared.command.Command.TheVariants.{Period, Put, Replace, Withdraw}
use Rattle.mot_lines.specs.Lines.{HasNoLineEnd}
use Rattle.mot_lines.specs.Text.{done_line, played_line, refusal_line}
use Rattle.mot_numbers.specs.declared.geometry.Geometry.{Geometry}
use Rattle.mot_numbers.specs.declared.refusal.Refusal.{Refusal}
use Rattle.mot_numbers.specs.declared.refusal.Refusal.TheVariants as why
use Rattle.mot_objects.specs.declared.command.Command as command
use Rattle.mot_numbers.specs.PacketLength.{IsLength}
use Rattle.mot_session.specs.Laws.{RepliesAreCutOnce}
use Rattle.mot_session.specs.Life.{Tells, Told}
use Rattle.mot_session.specs.Replies.{AreAsked, IsReply, IsShown}
use Rattle.mot_session.proofs.Shown.{done-shown, ids-endless, ids_of, joined, number-endless}

abbrev NoEnd : ℕ → Type 0
NoEnd b = nat_eq b 10 ≡ false

abbrev NoN : ℕ → Type 0
NoN b = nat_eq b 110 ≡ false

-- ---- lines, one behind the other

abbrev unlines : List (List ℕ) → List ℕ
unlines ls = flat_map (λ (l : List ℕ). l ++ 10 ∷ []) ls

first-is : {a b : ℕ} {x y : List ℕ} → a ∷ x ≡ b ∷ y → a ≡ b
first-is e = cc

rest-is : {a b : ℕ} {x y : List ℕ} → a ∷ x ≡ b ∷ y → x ≡ y
rest-is e = cc

not-end : (b : ℕ) → NoEnd b → 10 ≡ b → ⊥
not-end b h e = let f : nat_eq 10 10 ≡ false = subst (λ n. nat_eq n 10 ≡ false) (sym e) h in cc

cons-same : {a b : ℕ} {x y : List ℕ} → a ≡ b → x ≡ y → a ∷ x ≡ b ∷ y
cons-same e f = cc

-- two lines, and what follows them
cut : (x y u v : List ℕ) → HasNoLineEnd x → HasNoLineEnd y → x ++ 10 ∷ u ≡ y ++ 10 ∷ v
    → (x ≡ y) × (u ≡ v)
cut [] [] u v h k e = (refl, rest-is e)
cut [] (b ∷ y) u v h k e = absurd (not-end b (All-head NoEnd b y k) (first-is e))
cut (a ∷ x) [] u v h k e = absurd (not-end a (All-head NoEnd a x h) (sym (first-is e)))
cut (a ∷ x) (b ∷ y) u v h k e =
    let rest = cut x y u v (All-tail NoEnd a x h) (All-tail NoEnd b y k) (rest-is e) in
    (cons-same (first-is e) rest.0, rest.1)

grouped : (x r u : List ℕ) → x ++ 10 ∷ [] ++ r ++ u ≡ x ++ 10 ∷ (r ++ u)
grouped x r u = append_assoc (x ++ 10 ∷ []) r u ∙ append_assoc x (10 ∷ []) (r ++ u)

module _ (g : Geometry) where
  abbrev first_byte : List ℕ → ℕ
  first_byte [] = 0
  first_byte (b ∷ l) = b

  abbrev says_end : List ℕ → Bool
  says_end l = list_any (λ b. nat_eq b 110) l

  abbrev packets_of_raw : List ℕ → ℕ
  packets_of_raw body = div_ceil (length body + 11) (g.packet - 5)

  -- whether this line, behind so many, is the last of a reply, if it is no refusal
  abbrev ends_so : Result Line Refusal → ℕ → List ℕ → Bool
  ends_so (Ok (asks.Next count)) k l = nat_eq (k + 1) count
  ends_so (Ok asks.Turn) k l = says_end l
  ends_so (Ok (asks.Raw kind tid body)) k l = nat_eq (k + 1) (packets_of_raw body)
  ends_so (Ok (asks.Command c)) k l = true
  ends_so (Ok asks.List) k l = true
  ends_so (Err r) k l = true

  abbrev is_last : Result Line Refusal → ℕ → List ℕ → Bool
  is_last q k l = nat_eq (first_byte l) 114 || ends_so q k l

  abbrev IsRun : Result Line Refusal → ℕ → List (List ℕ) → Type 0
  IsRun q k [] = ⊥
  IsRun q k (l ∷ []) = is_last q k l ≡ true
  IsRun q k (l ∷ m ∷ ls) = (is_last q k l ≡ false) × IsRun q (k + 1) (m ∷ ls)

  clash : (q : Result Line Refusal) (k : ℕ) (x y : List ℕ) → x ≡ y → is_last q k x ≡ true
      → is_last q k y ≡ false → ⊥
  clash q k x y e h f =
      let is : true ≡ false = sym h ∙ ap (is_last q k) e ∙ f in cc

  same_run : (q : Result Line Refusal) (k : ℕ) (xs ys : List (List ℕ)) (u v : List ℕ)
      → IsRun q k xs → IsRun q k ys → AllByRecursion HasNoLineEnd xs
      → AllByRecursion HasNoLineEnd ys → unlines xs ++ u ≡ unlines ys ++ v
      → (unlines xs ≡ unlines ys) × (u ≡ v)
  same_run q k [] ys u v r s h i e = absurd r
  same_run q k (x ∷ xs) [] u v r s h i e = absurd s
  same_run q k (x ∷ []) (y ∷ []) u v r s h i e =
      let c = cut x y ([] ++ u) ([] ++ v) h.0 i.0
      (sym (grouped x [] u) ∙ e ∙ grouped y [] v) in
      (ap (λ (l : List ℕ). l ++ 10 ∷ [] ++ []) c.0, c.1)
  same_run q k (x ∷ []) (y ∷ n ∷ ys) u v r s h i e =
      let c = cut x y ([] ++ u) (unlines (n ∷ ys) ++ v) h.0 i.0
      (sym (grouped x [] u) ∙ e ∙ grouped y (unlines (n ∷ ys)) v) in
      absurd (clash q k x y c.0 r s.0)
  same_run q k (x ∷ m ∷ xs) (y ∷ []) u v r s h i e =
      let c = cut x y (unlines (m ∷ xs) ++ u) ([] ++ v) h.0 i.0
      (sym (grouped x (unlines (m ∷ xs)) u) ∙ e ∙ grouped y [] v) in
      absurd (clash q k y x (sym c.0) s r.0)
  same_run q k (x ∷ m ∷ xs) (y ∷ n ∷ ys) u v r s h i e =
      let c = cut x y (unlines (m ∷ xs) ++ u) (unlines (n ∷ ys) ++ v) h.0 i.0
      (sym (grouped x (unlines (m ∷ xs)) u) ∙ e ∙ grouped y (unlines (n ∷ ys)) v) in
      let rest = same_run q (k + 1) (m ∷ xs) (n ∷ ys) u v r.1 s.1 h.1 i.1 c.1 in (
        ap (λ (l : List ℕ). l ++ 10 ∷ [] ++ unlines (m ∷ xs)) c.0
            ∙ ap (λ (l : List ℕ). y ++ 10 ∷ [] ++ l) rest.0,
        rest.1,
      )

  -- a text as the lines of a reply
  record AsLines (q : Result Line Refusal) (text : List ℕ) : Type 0 where
    pub lines : List (List ℕ)
    pub same : text ≡ unlines lines
    pub endless : AllByRecursion HasNoLineEnd lines
    pub run : IsRun q 0 lines

  same_text : (q : Result Line Refusal) (s t u v : List ℕ) → AsLines q s → AsLines q t
      → s ++ u ≡ t ++ v → (s ≡ t) × (u ≡ v)
  same_text q s t u v x y e =
      let both = same_run q 0 x.lines y.lines u v x.run y.run x.endless y.endless
      (ap (λ l. l ++ u) (sym x.same) ∙ e ∙ ap (λ l. l ++ v) y.same) in
      (x.same ∙ both.0 ∙ sym y.same, both.1)

  -- ---- one line that refuses, or accepts

  one_line : (q : Result Line Refusal) (w : List ℕ) → HasNoLineEnd w → is_last q 0 w ≡ true
      → AsLines q (w ++ 10 ∷ [])
  one_line q w h last = record {
    lines = w ∷ [];
    same = sym (append-nil (w ++ 10 ∷ []));
    endless = (h, tt);
    run = last;
  }

  abbrev refusal_words : Refusal → List ℕ
  refusal_words r = codes "refused " ++ decimal (number_of r) ++ codes " " ++ name_of r

  quiet : List ℕ → Bool
  quiet [] = true
  quiet (x ∷ xs) = if nat_eq x 10 then false else quiet xs

  quiet-by : (x : ℕ) (xs : List ℕ) (b : Bool) → nat_eq x 10 ≡ b
      → (if b then false else quiet xs) ≡ true → (quiet xs ≡ true → HasNoLineEnd xs)
      → HasNoLineEnd (x ∷ xs)
  quiet-by x xs true is e rest = cc
  quiet-by x xs false is e rest = All-cons NoEnd x xs is (rest e)

  by_test : (xs : List ℕ) → quiet xs ≡ true → HasNoLineEnd xs
  unfolding quiet
  by_test [] e = All-nil NoEnd
  by_test (x ∷ xs) e = quiet-by x xs (nat_eq x 10) refl e (by_test xs)

  name-quiet : (r : Refusal) → quiet (name_of r) ≡ true
  unfolding quiet
  name-quiet why.BadLine = refl
  name-quiet why.BadName = refl
  name-quiet why.BadType = refl
  name-quiet why.BadMime = refl
  name-quiet why.BadBody = refl
  name-quiet why.EmptyBody = refl
  name-quiet why.BodyTooLong = refl
  name-quiet why.BadNumber = refl
  name-quiet why.NameTaken = refl
  name-quiet why.NoSuchName = refl
  name-quiet why.TooManyObjects = refl
  name-quiet why.NoRoom = refl
  name-quiet why.OutOfMemory = refl
  name-quiet why.DeviceFault = refl
  name-quiet why.Halted = refl
  name-quiet why.NotFormatted = refl
  name-quiet why.AlreadyFormatted = refl
  name-quiet why.DiskTooSmall = refl
  name-quiet (why.Damaged slot) = refl
  name-quiet why.BadGeometry = refl
  name-quiet why.ReadFault = refl
  name-quiet why.WriteFault = refl

  literal-quiet : quiet (codes "refused ") ≡ true
  unfolding quiet
  literal-quiet = refl

  space-quiet : quiet (codes " ") ≡ true
  unfolding quiet
  space-quiet = refl

  packet-quiet : quiet (codes "packet ") ≡ true
  unfolding quiet
  packet-quiet = refl

  end-quiet : quiet (codes " end") ≡ true
  unfolding quiet
  end-quiet = refl

  done-quiet : quiet (codes "done ") ≡ true
  unfolding quiet
  done-quiet = refl

  carousel-quiet : quiet (codes "carousel ") ≡ true
  unfolding quiet
  carousel-quiet = refl

  object-quiet : quiet (codes "object ") ≡ true
  unfolding quiet
  object-quiet = refl

  refusal-endless : (r : Refusal) → HasNoLineEnd (refusal_words r)
  refusal-endless r =
      joined (codes "refused " ++ decimal (number_of r) ++ codes " ") (name_of r)
      (joined (codes "refused " ++ decimal (number_of r)) (codes " ")
      (joined (codes "refused ") (decimal (number_of r)) (by_test (codes "refused ") literal-quiet)
      (number-endless (number_of r))) (by_test (codes " ") space-quiet))
      (by_test (name_of r) (name-quiet r))

  refused_lines : (q : Result Line Refusal) (r : Refusal) → AsLines q (refusal_line r)
  refused_lines q r = one_line q (refusal_words r) (refusal-endless r) refl

  done_lines : (c : command.Command) (ids : List ℕ) → HasNoLineEnd ids
      → AsLines (Ok (asks.Command c)) (codes "done " ++ ids ++ 10 ∷ [])
  done_lines c ids h = one_line (Ok (asks.Command c)) (codes "done " ++ ids)
      (joined (codes "done ") ids (by_test (codes "done ") done-quiet) h) refl

  -- ---- packets

  abbrev end_words : Bool → List ℕ
  end_words ends = if ends then codes " end" else []

  abbrev word : List ℕ × Bool → List ℕ
  word p = codes "packet " ++ encode_lower p.0 ++ end_words p.1

  digit-any : (P : ℕ → Type 0) (xs : List ℕ) → P 0 → AllByRecursion P xs → (i : ℕ)
      → P (get_or xs i 0)
  digit-any P [] z h i = z
  digit-any P (x ∷ xs) z h zero = h.0
  digit-any P (x ∷ xs) z h (suc i) = digit-any P xs z h.1 i

  hex-all : (P : ℕ → Type 0) → P 0 → AllByRecursion P lower_digits → (bytes : List ℕ)
      → All P (encode_with lower_digits bytes)
  unfolding encode_with
  hex-all P z h [] = All-nil P
  hex-all P z h (b ∷ bytes) =
      All-cons P (get_or lower_digits (b / 16) 0)
      (get_or lower_digits (b % 16) 0 ∷ encode_with lower_digits bytes)
      (digit-any P lower_digits z h (b / 16))
      (All-cons P (get_or lower_digits (b % 16) 0) (encode_with lower_digits bytes)
      (digit-any P lower_digits z h (b % 16)) (hex-all P z h bytes))

  hex-endless : (bytes : List ℕ) → HasNoLineEnd (encode_lower bytes)
  hex-endless bytes = hex-all NoEnd refl (
    refl,
    (
      refl,
      (
        refl,
        (
          refl,
          (
            refl,
            (
              refl,
              (
                refl,
                (
                  refl,
                  (
                    refl,
                    (
                      refl,
                      (
                        refl,
                        (
                          refl,
                          (
                            refl,
                            (refl, (refl, (refl, tt))),
                          ),
                        ),
                      ),
                    ),
                  ),
                ),
              ),
            ),
          ),
        ),
      ),
    ),
  ) bytes

  hex-no_n : (bytes : List ℕ) → All NoN (encode_lower bytes)
  hex-no_n bytes = hex-all NoN refl (
    refl,
    (
      refl,
      (
        refl,
        (
          refl,
          (
            refl,
            (
              refl,
              (
                refl,
                (
                  refl,
                  (
                    refl,
                    (
                      refl,
                      (
                        refl,
                        (
                          refl,
                          (
                            refl,
                            (refl, (refl, (refl, tt))),
                          ),
                        ),
                      ),
                    ),
                  ),
                ),
              ),
            ),
          ),
        ),
      ),
    ),
  ) bytes

  end-endless : (ends : Bool) → HasNoLineEnd (end_words ends)
  end-endless true = by_test (codes " end") end-quiet
  end-endless false = All-nil NoEnd

  word-endless : (p : List ℕ × Bool) → HasNoLineEnd (word p)
  word-endless p = joined (codes "packet " ++ encode_lower p.0) (end_words p.1)
      (joined (codes "packet ") (encode_lower p.0) (by_test (codes "packet ") packet-quiet)
      (hex-endless p.0)) (end-endless p.1)

  words-endless : (shown : List (List ℕ × Bool)) (others : List (List ℕ))
      → AllByRecursion HasNoLineEnd others
      → AllByRecursion HasNoLineEnd (map word shown ++ others)
  words-endless [] others h = h
  words-endless (p ∷ shown) others h = (word-endless p, words-endless shown others h)

  none-before : (xs ys : List ℕ) → All NoN xs → says_end (xs ++ ys) ≡ says_end ys
  none-before [] ys h = refl
  none-before (x ∷ xs) ys h =
      ap (λ b. b || says_end (xs ++ ys)) (All-head NoN x xs h)
      ∙ none-before xs ys (All-tail NoN x xs h)

  end-says : (ends : Bool) → says_end (end_words ends) ≡ ends
  end-says true = refl
  end-says false = refl

  packet-no_n : All NoN (codes "packet ")
  packet-no_n = each (codes "packet ") (refl, (refl, (refl, (refl, (refl, (refl, (refl, tt)))))))
    where
      each : (xs : List ℕ) → AllByRecursion NoN xs → All NoN xs
      each xs h = All-from_recursion NoN xs h

  word-says : (p : List ℕ × Bool) → says_end (word p) ≡ p.1
  word-says p =
      none-before (codes "packet " ++ encode_lower p.0) (end_words p.1)
      (All-append NoN (codes "packet ") (encode_lower p.0) packet-no_n (hex-no_n p.0))
      ∙ end-says p.1

  shown-lines : (shown : List (List ℕ × Bool)) (others : List (List ℕ))
      → flat_map (λ (p : List ℕ × Bool). played_line p.0 p.1) shown ++ unlines others
      ≡ unlines (map word shown ++ others)
  shown-lines [] others = refl
  shown-lines (p ∷ shown) others =
      append_assoc (played_line p.0 p.1)
      (flat_map (λ (p : List ℕ × Bool). played_line p.0 p.1) shown) (unlines others)
      ∙ ap (λ (l : List ℕ). played_line p.0 p.1 ++ l) (shown-lines shown others)

  -- so many packets, and no more
  counted-run : (q : Result Line Refusal) (n : ℕ)
      → ((k : ℕ) (l : List ℕ) → ends_so q k l ≡ nat_eq (k + 1) n) → (p : List ℕ × Bool)
      (shown : List (List ℕ × Bool)) (k : ℕ) → k + suc (length shown) ≡ n
      → IsRun q k (map word (p ∷ shown) ++ [])
  counted-run q n ends p [] k e =
      ends k (word p) ∙ eq-eqb (k + 1) n (omega (arith, e))
  counted-run q n ends p (r ∷ shown) k e = (
    ends k (word p) ∙ ne_eqb (k + 1) n (omega (arith, e)),
    counted-run q n ends r shown (k + 1) (omega (arith, e)),
  )

  -- fewer, and the fault of the disk
  cut-run : (q : Result Line Refusal) (n : ℕ)
      → ((k : ℕ) (l : List ℕ) → ends_so q k l ≡ nat_eq (k + 1) n)
      → (shown : List (List ℕ × Bool)) (k : ℕ) → k + length shown < n
      → IsRun q k (map word shown ++ refusal_words why.DeviceFault ∷ [])
  cut-run q n ends [] k e = refl
  cut-run q n ends (p ∷ []) k e =
      (ends k (word p) ∙ ne_eqb (k + 1) n (omega (arith, e)), refl)
  cut-run q n ends (p ∷ r ∷ shown) k e = (
    ends k (word p) ∙ ne_eqb (k + 1) n (omega (arith, e)),
    cut-run q n ends (r ∷ shown) (k + 1) (omega (arith, e)),
  )

  first-flag : {a b : Bool} {x y : List Bool} → a ∷ x ≡ b ∷ y → a ≡ b
  first-flag e = cc

  rest-flags : {a b : Bool} {x y : List Bool} → a ∷ x ≡ b ∷ y → x ≡ y
  rest-flags e = cc

  no-flags : (n : ℕ) → [] ≡ replicate n false ++ true ∷ [] → ⊥
  no-flags zero e = cc
  no-flags (suc n) e = cc

  abbrev flags : List (List ℕ × Bool) → List Bool
  flags shown = map (λ (p : List ℕ × Bool). p.1) shown

  -- up to the one that ends a turn
  turn-run : (n : ℕ) (shown : List (List ℕ × Bool)) (k : ℕ)
      → flags shown ≡ replicate n false ++ true ∷ []
      → IsRun (Ok asks.Turn) k (map word shown ++ [])
  turn-run n [] k e = absurd (no-flags n e)
  turn-run zero (p ∷ []) k e = word-says p ∙ first-flag e
  turn-run zero (p ∷ r ∷ shown) k e = absurd (no-more (rest-flags e))
    where
      no-more : r.1 ∷ flags shown ≡ [] → ⊥
      no-more e = cc
  turn-run (suc n) (p ∷ []) k e = absurd (no-flags n (rest-flags e))
  turn-run (suc n) (p ∷ r ∷ shown) k e =
      (word-says p ∙ first-flag e, turn-run n (r ∷ shown) (k + 1) (rest-flags e))

  -- some that end none, and the fault of the disk
  turn-cut : (n : ℕ) (shown : List (List ℕ × Bool)) (k : ℕ) → flags shown ≡ replicate n false
      → IsRun (Ok asks.Turn) k (map word shown ++ refusal_words why.DeviceFault ∷ [])
  turn-cut n [] k e = refl
  turn-cut zero (p ∷ shown) k e = absurd (no-more e)
    where
      no-more : p.1 ∷ flags shown ≡ [] → ⊥
      no-more e = cc
  turn-cut (suc n) (p ∷ []) k e = (word-says p ∙ first-flag e, refl)
  turn-cut (suc n) (p ∷ r ∷ shown) k e =
      (word-says p ∙ first-flag e, turn-cut n (r ∷ shown) (k + 1) (rest-flags e))

  -- a request of at least one packet, as each is that a line asks for
  abbrev pub IsProper : Result Line Refusal → Type 0
  IsProper (Ok (asks.Next count)) = 1 ≤ count
  IsProper (Ok (asks.Raw kind tid body)) = 1 ≤ packets_of_raw body
  IsProper (Ok (asks.Command c)) = ⊤
  IsProper (Ok asks.List) = ⊤
  IsProper (Ok asks.Turn) = ⊤
  IsProper (Err r) = ⊤

  abbrev texts_shown : List (List ℕ × Bool) → List ℕ
  texts_shown shown = flat_map (λ (p : List ℕ × Bool). played_line p.0 p.1) shown

  all_shown : (q : Result Line Refusal) (shown : List (List ℕ × Bool))
      → IsRun q 0 (map word shown ++ []) → AsLines q (texts_shown shown ++ [])
  all_shown q shown run = record {
    lines = map word shown ++ [];
    same = shown-lines shown [];
    endless = words-endless shown [] tt;
    run = run;
  }

  cut_shown : (q : Result Line Refusal) (shown : List (List ℕ × Bool))
      → IsRun q 0 (map word shown ++ refusal_words why.DeviceFault ∷ [])
      → AsLines q (texts_shown shown ++ refusal_line why.DeviceFault)
  cut_shown q shown run = record {
    lines = map word shown ++ refusal_words why.DeviceFault ∷ [];
    same = ap (λ l. texts_shown shown ++ l) (sym (append-nil (refusal_line why.DeviceFault)))
        ∙ shown-lines shown (refusal_words why.DeviceFault ∷ []);
    endless = words-endless shown (refusal_words why.DeviceFault ∷ [])
        (refusal-endless why.DeviceFault, tt);
    run = run;
  }

  many : (shown : List (List ℕ × Bool)) → length (flags shown) ≡ length shown
  many shown = length-map shown (λ (p : List ℕ × Bool). p.1)

  counted : (q : Result Line Refusal) (n : ℕ)
      → ((k : ℕ) (l : List ℕ) → ends_so q k l ≡ nat_eq (k + 1) n)
      → (shown : List (List ℕ × Bool)) → 1 ≤ n → length shown ≡ n
      → IsRun q 0 (map word shown ++ [])
  counted q n ends [] some e = absurd (none n some e)
    where
      none : (n : ℕ) → 1 ≤ n → 0 ≡ n → ⊥
      none n some e = omega (arith, some, e)
  counted q n ends (p ∷ shown) some e = counted-run q n ends p shown 0 (omega (arith, e))

  packet_lines : (q : Result Line Refusal) (shown : List (List ℕ × Bool)) (failed : Bool)
      → IsProper q → AreAsked g q failed (flags shown)
      → AsLines q (texts_shown shown ++ (if failed then refusal_line why.DeviceFault else []))
  packet_lines (Ok (asks.Next count)) shown false proper asked =
      all_shown (Ok (asks.Next count)) shown
      (counted (Ok (asks.Next count)) count (λ k l. refl) shown proper (sym (many shown) ∙ asked))
  packet_lines (Ok (asks.Next count)) shown true proper asked =
      cut_shown (Ok (asks.Next count)) shown
      (cut-run (Ok (asks.Next count)) count (λ k l. refl) shown 0
      (omega (arith, asked, many shown)))
  packet_lines (Ok asks.Turn) shown false proper asked =
      all_shown (Ok asks.Turn) shown (turn-run asked.0 shown 0 asked.1)
  packet_lines (Ok asks.Turn) shown true proper asked =
      cut_shown (Ok asks.Turn) shown (turn-cut asked.0 shown 0 asked.1)
  packet_lines (Ok (asks.Raw kind tid body)) shown false proper asked =
      all_shown (Ok (asks.Raw kind tid body)) shown
      (counted (Ok (asks.Raw kind tid body)) (packets_of_raw body) (λ k l. refl) shown proper
      (sym (many shown) ∙ ap length asked ∙ length-replicate {A = Bool} (packets_of_raw body)
      false))
  packet_lines (Ok (asks.Raw kind tid body)) shown true proper asked = absurd asked
  packet_lines (Ok (asks.Command c)) shown failed proper asked = absurd (neither failed asked)
    where
      neither : (b : Bool) → AreAsked g (Ok (asks.Command c)) b (flags shown) → ⊥
      neither true a = a
      neither false a = a
  packet_lines (Ok asks.List) shown failed proper asked = absurd (neither failed asked)
    where
      neither : (b : Bool) → AreAsked g (Ok asks.List) b (flags shown) → ⊥
      neither true a = a
      neither false a = a
  packet_lines (Err r) shown failed proper asked = absurd (neither failed asked)
    where
      neither : (b : Bool) → AreAsked g (Err r) b (flags shown) → ⊥
      neither true a = a
      neither false a = a

  abbrev IsNotList : Result Line Refusal → Type 0
  IsNotList (Ok asks.List) = ⊥
  IsNotList (Ok (asks.Next count)) = ⊤
  IsNotList (Ok (asks.Raw kind tid body)) = ⊤
  IsNotList (Ok (asks.Command c)) = ⊤
  IsNotList (Ok asks.Turn) = ⊤
  IsNotList (Err r) = ⊤

  as_lines : (q : Result Line Refusal) (text : List ℕ) → IsNotList q → IsProper q
      → IsReply g q text → AsLines q text
  as_lines q text other proper (inl (r, e)) =
      subst (λ t. AsLines q t) (sym e) (refused_lines q r)
  as_lines q text other proper (inr (inl (c, d, is, e))) =
      subst (λ t. AsLines q t) (sym (e ∙ done-shown d))
      (subst (λ x. AsLines x (codes "done " ++ ids_of d ++ 10 ∷ [])) (sym is)
      (done_lines c (ids_of d) (ids-endless d)))
  as_lines q text other proper (inr (inr (IsShown.listed numbers objects is endless e))) =
      absurd (subst IsNotList is other)
  as_lines q text other proper (inr (inr (IsShown.packets shown failed asked why_so e))) =
      subst (λ t. AsLines q t) (sym e) (packet_lines q shown failed proper asked)

  -- ---- a listing

  differs : (m n : ℕ) → nat_eq m n ≡ false → m ≡ n → ⊥
  differs m n no_eq e =
      let same : nat_eq n n ≡ false = subst (λ k. nat_eq k n ≡ false) e no_eq in
      let is : nat_eq n n ≡ true = eq-eqb n n refl in
      let both : true ≡ false = sym is ∙ same in cc

  abbrev objects_of : List (List ℕ) → List ℕ
  objects_of objects = flat_map (λ o. codes "object " ++ o ++ 10 ∷ []) objects

  -- no line of an object
  abbrev NotObject : List ℕ → Type 0
  NotObject l = first_byte l ≡ 111 → ⊥

  object-endless : (o : List ℕ) → HasNoLineEnd o → HasNoLineEnd (codes "object " ++ o)
  object-endless o h = joined (codes "object ") o (by_test (codes "object ") object-quiet) h

  same_objects : (xs ys : List (List ℕ)) (u v : List ℕ) → AllByRecursion HasNoLineEnd xs
      → AllByRecursion HasNoLineEnd ys → NotObject u → NotObject v
      → objects_of xs ++ u ≡ objects_of ys ++ v → (objects_of xs ≡ objects_of ys) × (u ≡ v)
  same_objects [] [] u v h i no_u no_v e = (refl, e)
  same_objects [] (y ∷ ys) u v h i no_u no_v e = absurd (no_u (ap first_byte e))
  same_objects (x ∷ xs) [] u v h i no_u no_v e = absurd (no_v (sym (ap first_byte e)))
  same_objects (x ∷ xs) (y ∷ ys) u v h i no_u no_v e =
      let c = cut (codes "object " ++ x) (codes "object " ++ y) (objects_of xs ++ u)
      (objects_of ys ++ v) (object-endless x h.0) (object-endless y i.0)
      (sym (grouped (codes "object " ++ x) (objects_of xs) u) ∙ e
      ∙ grouped (codes "object " ++ y) (objects_of ys) v) in
      let rest = same_objects xs ys u v h.1 i.1 no_u no_v c.1 in (
        ap (λ (l : List ℕ). l ++ 10 ∷ [] ++ objects_of xs) c.0
            ∙ ap (λ (l : List ℕ). codes "object " ++ y ++ 10 ∷ [] ++ l) rest.0,
        rest.1,
      )

  record Lists (text : List ℕ) : Type 0 where
    pub numbers : List ℕ
    pub objects : List (List ℕ)
    pub endless : AllByRecursion HasNoLineEnd (numbers ∷ objects)
    pub same : text ≡ codes "carousel " ++ numbers ++ 10 ∷ [] ++ objects_of objects

  list_form : (text : List ℕ) → IsReply g (Ok asks.List) text
      → ((r : Refusal) × (text ≡ refusal_line r)) ⊎ Lists text
  list_form text (inl (r, e)) = inl (r, e)
  list_form text (inr (inl (c, d, is, e))) = cc
  list_form text (inr (inr (IsShown.listed numbers objects is endless e))) =
      inr (record { numbers = numbers; objects = objects; endless = endless; same = e })
  list_form text (inr (inr (IsShown.packets shown true asked why_so e))) = absurd asked
  list_form text (inr (inr (IsShown.packets shown false asked why_so e))) = absurd asked

  carousel-endless : (n : List ℕ) → HasNoLineEnd n → HasNoLineEnd (codes "carousel " ++ n)
  carousel-endless n h = joined (codes "carousel ") n (by_test (codes "carousel ") carousel-quiet) h

  mixed : (s t u v : List ℕ) (r : Refusal) (l : Lists t) → s ≡ refusal_line r → s ++ u ≡ t ++ v → ⊥
  mixed s t u v r l is e =
      let f : refusal_line r ++ u
      ≡ codes "carousel " ++ l.numbers ++ 10 ∷ [] ++ objects_of l.objects ++ v =
      ap (λ x. x ++ u) (sym is) ∙ e ∙ ap (λ x. x ++ v) l.same in
      let b : ◌≡◌ {A = ℕ} 114 99 = ap first_byte f in
      differs 114 99 refl b

  same_lists : (s t u v : List ℕ) (a : Lists s) (b : Lists t) → NotObject u → NotObject v
      → s ++ u ≡ t ++ v → (s ≡ t) × (u ≡ v)
  same_lists s t u v a b no_u no_v e =
      let f = sym (grouped (codes "carousel " ++ a.numbers) (objects_of a.objects) u)
      ∙ ap (λ x. x ++ u) (sym a.same) ∙ e ∙ ap (λ x. x ++ v) b.same
      ∙ grouped (codes "carousel " ++ b.numbers) (objects_of b.objects) v in
      let c = cut (codes "carousel " ++ a.numbers) (codes "carousel " ++ b.numbers)
      (objects_of a.objects ++ u) (objects_of b.objects ++ v)
      (carousel-endless a.numbers a.endless.0) (carousel-endless b.numbers b.endless.0) f in
      let rest = same_objects a.objects b.objects u v a.endless.1 b.endless.1 no_u no_v c.1 in (
        a.same ∙ ap (λ (l : List ℕ). l ++ 10 ∷ [] ++ objects_of a.objects) c.0
            ∙ ap (λ (l : List ℕ). codes "carousel " ++ b.numbers ++ 10 ∷ [] ++ l) rest.0
            ∙ sym b.same,
        rest.1,
      )

  list_same : (s t u v : List ℕ) → IsReply g (Ok asks.List) s → IsReply g (Ok asks.List) t
      → NotObject u → NotObject v → s ++ u ≡ t ++ v → (s ≡ t) × (u ≡ v)
  list_same s t u v x y no_u no_v e = by (list_form s x) (list_form t y)
    where
      single : (w : List ℕ) (r : Refusal) → w ≡ refusal_line r → AsLines (Ok asks.List) w
      single w r is = subst (λ t. AsLines (Ok asks.List) t) (sym is)
          (refused_lines (Ok asks.List) r)

      by : ((r : Refusal) × (s ≡ refusal_line r)) ⊎ Lists s
          → ((r : Refusal) × (t ≡ refusal_line r)) ⊎ Lists t → (s ≡ t) × (u ≡ v)
      by (inl a) (inl b) =
          same_text (Ok asks.List) s t u v (single s a.0 a.1) (single t b.0 b.1) e
      by (inl a) (inr b) = absurd (mixed s t u v a.0 b a.1 e)
      by (inr a) (inl b) = absurd (mixed t s v u b.0 a b.1 (sym e))
      by (inr a) (inr b) = same_lists s t u v a b no_u no_v e

  -- ---- any reply

  same_reply : (q : Result Line Refusal) (s t u v : List ℕ) → IsProper q → IsReply g q s
      → IsReply g q t → NotObject u → NotObject v → s ++ u ≡ t ++ v → (s ≡ t) × (u ≡ v)
  same_reply (Ok asks.List) s t u v proper x y no_u no_v e = list_same s t u v x y no_u no_v e
  same_reply (Ok (asks.Next count)) s t u v proper x y no_u no_v e =
      same_text (Ok (asks.Next count)) s t u v (as_lines (Ok (asks.Next count)) s tt proper x)
      (as_lines (Ok (asks.Next count)) t tt proper y) e
  same_reply (Ok (asks.Raw kind tid body)) s t u v proper x y no_u no_v e =
      same_text (Ok (asks.Raw kind tid body)) s t u v
      (as_lines (Ok (asks.Raw kind tid body)) s tt proper x)
      (as_lines (Ok (asks.Raw kind tid body)) t tt proper y) e
  same_reply (Ok (asks.Command c)) s t u v proper x y no_u no_v e =
      same_text (Ok (asks.Command c)) s t u v (as_lines (Ok (asks.Command c)) s tt proper x)
      (as_lines (Ok (asks.Command c)) t tt proper y) e
  same_reply (Ok asks.Turn) s t u v proper x y no_u no_v e =
      same_text (Ok asks.Turn) s t u v (as_lines (Ok asks.Turn) s tt proper x)
      (as_lines (Ok asks.Turn) t tt proper y) e
  same_reply (Err r) s t u v proper x y no_u no_v e =
      same_text (Err r) s t u v (as_lines (Err r) s tt proper x)
      (as_lines (Err r) t tt proper y) e

  text-not : (text other rest : List ℕ) → text ≡ other
      → nat_eq (first_byte (other ++ rest)) 111 ≡ false → NotObject (text ++ rest)
  text-not text other rest e no_eq is =
      differs (first_byte (other ++ rest)) 111 no_eq
      (sym (ap (λ t. first_byte (t ++ rest)) e) ∙ is)

  none-asked : (q : Result Line Refusal) → IsProper q → AreAsked g q false [] → ⊥
  none-asked (Ok (asks.Next count)) proper asked = omega (arith, proper, asked)
  none-asked (Ok asks.Turn) proper asked = no-flags asked.0 asked.1
  none-asked (Ok (asks.Raw kind tid body)) proper asked =
      let none : 0 ≡ packets_of_raw body = ap length asked
      ∙ length-replicate {A = Bool} (packets_of_raw body) false in omega (arith, proper, none)
  none-asked (Ok (asks.Command c)) proper asked = asked
  none-asked (Ok asks.List) proper asked = asked
  none-asked (Err r) proper asked = asked

  not_object : (q : Result Line Refusal) (text rest : List ℕ) → IsProper q → IsReply g q text
      → NotObject (text ++ rest)
  not_object q text rest proper (inl (r, e)) = text-not text (refusal_line r) rest e refl
  not_object q text rest proper (inr (inl (c, d, is, e))) = text-not text (done_line d) rest e refl
  not_object q text rest proper (inr (inr (IsShown.listed numbers objects is endless e))) =
      text-not text (codes "carousel " ++ numbers ++ 10 ∷ [] ++ objects_of objects) rest e refl
  not_object q text rest proper (inr (inr (IsShown.packets [] false asked why_so e))) =
      absurd (none-asked q proper asked)
  not_object q text rest proper (inr (inr (IsShown.packets [] true asked why_so e))) =
      text-not text (refusal_line why.DeviceFault) rest e refl
  not_object q text rest proper (inr (inr (IsShown.packets (p ∷ shown) failed asked why_so e))) =
      text-not text (texts_shown (p ∷ shown)
      ++ (if failed then refusal_line why.DeviceFault else [])) rest e refl

  -- ---- all that was told

  abbrev Replies : List Told → Type 0
  Replies told = AllByRecursion (λ (t : Told). IsReply g (line_of t.line) t.text) told

  abbrev AreProper : List Told → Type 0
  AreProper told = AllByRecursion (λ (t : Told). IsProper (line_of t.line)) told

  abbrev texts : List Told → List ℕ
  texts told = flat_map (λ (t : Told). t.text) told

  abbrev lines_told : List Told → List (List ℕ)
  lines_told told = map (λ (t : Told). t.line) told

  texts_not : (told : List Told) (u : List ℕ) → AreProper told → Replies told → NotObject u
      → NotObject (texts told ++ u)
  texts_not [] u proper replies no_u = no_u
  texts_not (t ∷ told) u proper replies no_u =
      subst NotObject (sym (append_assoc t.text (texts told) u))
      (not_object (line_of t.line) t.text (texts told ++ u) proper.0 replies.0)

  first-line : {a b : List ℕ} {x y : List (List ℕ)} → a ∷ x ≡ b ∷ y → a ≡ b
  first-line e = cc

  rest-lines : {a b : List ℕ} {x y : List (List ℕ)} → a ∷ x ≡ b ∷ y → x ≡ y
  rest-lines e = cc

  same-one : (a b : Told) → a.line ≡ b.line → a.text ≡ b.text → a ≡ b
  same-one a b e f =
      ap (λ (l : List ℕ). let t : Told = record { line = l; text = a.text } in t) e
      ∙ ap (λ (x : List ℕ). let t : Told = record { line = b.line; text = x } in t) f

  cons-told : {a b : Told} {x y : List Told} → a ≡ b → x ≡ y → a ∷ x ≡ b ∷ y
  cons-told e f = cc

  -- of two ways to cut what was written into replies to the same lines one is the other
  pub same_told : (told others : List Told) (u v : List ℕ) → lines_told told ≡ lines_told others
      → Replies told → Replies others → AreProper told → AreProper others → NotObject u
      → NotObject v → texts told ++ u ≡ texts others ++ v → told ≡ others
  same_told [] [] u v lines x y p q no_u no_v e = refl
  same_told [] (b ∷ others) u v lines x y p q no_u no_v e = cc
  same_told (a ∷ told) [] u v lines x y p q no_u no_v e = cc
  same_told (a ∷ told) (b ∷ others) u v lines x y p q no_u no_v e =
      let line = first-line lines in
      let other = subst (λ l. IsReply g (line_of l) b.text) (sym line) y.0 in
      let one = same_reply (line_of a.line) a.text b.text (texts told ++ u) (texts others ++ v) p.0
      x.0 other (texts_not told u p.1 x.1 no_u) (texts_not others v q.1 y.1 no_v)
      (sym (append_assoc a.text (texts told) u) ∙ e ∙ append_assoc b.text (texts others) v) in
      cons-told (same-one a b line one.0)
      (same_told told others u v (rest-lines lines) x.1 y.1 p.1 q.1 no_u no_v one.1)

  -- some first bytes of a reply begin no line of an object
  front_not : (q : Result Line Refusal) (front rest : List ℕ) → IsProper q
      → IsReply g q (front ++ rest) → NotObject front
  front_not q [] rest proper reply = differs 0 111 refl
  front_not q (b ∷ front) rest proper reply =
      let none = not_object q (b ∷ front ++ rest) [] proper reply in
      λ e. none e

  same-fronts : (xs ys us vs : List (List ℕ)) → xs ++ us ≡ ys ++ vs → length xs ≡ length ys
      → xs ≡ ys
  same-fronts [] [] us vs e n = refl
  same-fronts [] (y ∷ ys) us vs e n = cc
  same-fronts (x ∷ xs) [] us vs e n = cc
  same-fronts (x ∷ xs) (y ∷ ys) us vs e n =
      cons-lines (first-line e) (same-fronts xs ys us vs (rest-lines e) (one-less n))
    where
      cons-lines : {a b : List ℕ} {k l : List (List ℕ)} → a ≡ b → k ≡ l → a ∷ k ≡ b ∷ l
      cons-lines e f = cc

      one-less : {m n : ℕ} → suc m ≡ suc n → m ≡ n
      one-less e = omega (arith, e)

  -- ---- each line asks for at least one packet, or for none

  some-by : (d n room : ℕ) → n ≤ d * room → 0 < n → 1 ≤ d
  some-by zero n room most some = omega (arith, most, some)
  some-by (suc d) n room most some = omega arith

  some_pieces : (n room : ℕ) → 0 < n → 0 < room → 1 ≤ div_ceil n room
  some_pieces n room some is = some-by (div_ceil n room) n room (div_ceil_times n room is).0 some

  either : (b : Bool) (x y : Result Line Refusal) → IsProper x → IsProper y
      → IsProper (if b then x else y)
  either true x y h k = h
  either false x y h k = k

  behind : {A : Type 0} (r : Result A Refusal) (f : A → Result Line Refusal)
      → ((a : A) → r ≡ Ok a → IsProper (f a)) → IsProper (r >>= f)
  behind (Ok a) f h = h a refl
  behind (Err r) f h = tt

  count-by : (b : Bool) (m n : ℕ) → nat_lt 0 m ≡ b → (c : Bool)
      → ◌≡◌ {A = Result ℕ Refusal} (if b && c then Ok m else Err why.BadNumber) (Ok n) → 1 ≤ n
  count-by true m n e true f =
      let same : m ≡ n = is f in let some = ltb-true 0 m e in omega (arith, same, some)
    where
      is : ◌≡◌ {A = Result ℕ Refusal} (Ok m) (Ok n) → m ≡ n
      is f = cc
  count-by true m n e false f = cc
  count-by false m n e c f = cc

  count-some : (o : Option ℕ) (n : ℕ) → number_to MAX_PACKETS o ≡ Ok n → 1 ≤ n
  count-some None n e = cc
  count-some (Some m) n e = count-by (nat_lt 0 m) m n refl (nat_le m MAX_PACKETS) e

  module _ (is : 0 < g.packet - 5) where
    raw-proper : (words : List (List ℕ)) → IsProper (raw_of words)
    unfolding raw_of
    raw-proper [] = tt
    raw-proper (a ∷ []) = tt
    raw-proper (a ∷ b ∷ []) = tt
    raw-proper (a ∷ b ∷ c ∷ []) =
        behind (kind_in (number_of_word a)) (λ k. number_to 65535 (number_of_word b) >>= λ t.
        segment_in (decode_of c) >>= λ body. Ok (asks.Raw k t body)) (λ k e.
        behind (number_to 65535 (number_of_word b)) (λ t.
        segment_in (decode_of c) >>= λ body. Ok (asks.Raw k t body)) (λ t e.
        behind (segment_in (decode_of c)) (λ body. Ok (asks.Raw k t body)) (λ body e.
        some_pieces (length body + 11) (g.packet - 5) (omega arith) is)))
    raw-proper (a ∷ b ∷ c ∷ d ∷ words) = tt

    next-proper : (words : List (List ℕ)) → IsProper (next_of words)
    next-proper [] = tt
    next-proper (number ∷ []) =
        behind (number_to MAX_PACKETS (number_of_word number)) (λ n. Ok (asks.Next n))
        (λ n e. count-some (number_of_word number) n e)
    next-proper (a ∷ b ∷ words) = tt

    turn-proper : (words : List (List ℕ)) → IsProper (alone_of asks.Turn words)
    turn-proper [] = tt
    turn-proper (a ∷ words) = tt

    list-proper : (words : List (List ℕ)) → IsProper (alone_of asks.List words)
    list-proper [] = tt
    list-proper (a ∷ words) = tt

    withdraw-proper : (words : List (List ℕ)) → IsProper (withdraw_of words)
    withdraw-proper [] = tt
    withdraw-proper (name ∷ []) =
        behind (name_in name) (λ n. Ok (asks.Command (Withdraw n))) (λ n e. tt)
    withdraw-proper (a ∷ b ∷ words) = tt

    period-proper : (words : List (List ℕ)) → IsProper (period_of words)
    period-proper [] = tt
    period-proper (number ∷ []) =
        behind (period_in (number_of_word number)) (λ n. Ok (asks.Command (Period n))) (λ n e. tt)
    period-proper (a ∷ b ∷ words) = tt

    put-proper : (words : List (List ℕ)) → IsProper (put_of words)
    put-proper words = behind (description_of words)
        (λ d. Ok (asks.Command (Put d.name d.content d.mime d.body))) (λ d e. tt)

    replace-proper : (words : List (List ℕ)) → IsProper (replace_of words)
    replace-proper words = behind (description_of words)
        (λ d. Ok (asks.Command (Replace d.name d.content d.mime d.body))) (λ d e. tt)

    asked-proper : (v : Option Verb) (words : List (List ℕ)) → IsProper (asked_by v words)
    asked-proper (Some verb.Raw) words = raw-proper words
    asked-proper (Some verb.Put) words = put-proper words
    asked-proper (Some verb.Replace) words = replace-proper words
    asked-proper (Some verb.Withdraw) words = withdraw-proper words
    asked-proper (Some verb.Period) words = period-proper words
    asked-proper (Some verb.List) words = list-proper words
    asked-proper (Some verb.Next) words = next-proper words
    asked-proper (Some verb.Turn) words = turn-proper words
    asked-proper None words = tt

    request-proper : (words : List (List ℕ)) → IsProper (request_of words)
    unfolding request_of
    request-proper [] = tt
    request-proper (first ∷ words) = asked-proper (verb_of first) words

    line-proper : (line : List ℕ) → IsProper (line_of line)
    unfolding line_of
    line-proper line = either (nat_le (length line) MAX_LINE) (request_of (words_of line))
        (Err why.BadLine) (request-proper (words_of line)) tt

    all-proper : (told : List Told) → AreProper told
    all-proper [] = tt
    all-proper (t ∷ told) = (line-proper t.line, all-proper told)

    ends_not : (input : List ℕ) (left : Option (List ℕ)) (count : ℕ) (fault : Option Refusal)
        (told : List Told) (flight : List command.Command) (old new : Option (List ℕ))
        → (tells : Tells g input left count fault told flight old new) → NotObject tells.front
    ends_not input left count fault told flight old new tells =
        ⊎_elim {C = NotObject tells.front}
        (λ none. subst NotObject (sym none.0) (differs 0 111 refl))
        (λ broken. front_not (line_of broken.0) tells.front broken.1 (line-proper broken.0)
        broken.5) tells.ends

    -- Of a geometry whose packets carry data, and however serving ended: what was read and written
    -- says what was told of each line, and so which commands are done.
    told_once : (input : List ℕ) (left : Option (List ℕ)) (count : ℕ) (fault : Option Refusal)
        (told others : List Told) (flight fly : List command.Command) (old new : List ℕ)
        → Tells g input left count fault told flight (Some old) (Some new)
        → Tells g input left count fault others fly (Some old) (Some new) → told ≡ others
    told_once input left count fault told others flight fly old new a b =
        same_told told others a.front b.front
        (same-fronts (lines_told told) (lines_told others) a.unanswered b.unanswered
        (sym a.lines ∙ b.lines)
        (length-map told (λ (t : Told). t.line) ∙ sym a.counted ∙ b.counted
        ∙ sym (length-map others (λ (t : Told). t.line)))) a.replies b.replies (all-proper told)
        (all-proper others) (ends_not input left count fault told flight (Some old) (Some new) a)
        (ends_not input left count fault others fly (Some old) (Some new) b)
        (append_cancel_left old (texts told ++ a.front) (texts others ++ b.front)
        (sym a.written ∙ b.written))

-- packets carry data
some-room : (n : ℕ) → IsLength n → 0 < n - 5
some-room n (inl e) = omega (arith, e)
some-room n (inr (inl e)) = omega (arith, e)
some-room n (inr (inr (inl e))) = omega (arith, e)
some-room n (inr (inr (inr e))) = omega (arith, e)

pub replies-are_cut_once : RepliesAreCutOnce
replies-are_cut_once g input left count fault told others flight fly old new valid =
    told_once g (some-room g.packet valid.8) input left count fault told others flight fly
    old new
