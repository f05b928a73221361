-- What the text of a reply tells of the command of its line.
use Rattle.std.proofs.Common.{◌≡◌, ◌⊎◌, inl, inr, Bool, true, false, List, [], Result, Ok, Err}
use Rattle.std.proofs.Common.{refl, sym, ap, ◌∙◌, ℕ, ◌<◌, ◌∷◌, ◌++◌, length, take, append-nil}
use Rattle.std.proofs.Common.{arith, subst}
use Rattle.std.proofs.lemmas.Slice.Eq.{bytes_eq-Decides}
use Rattle.std.specs.Prelude.{IsFalse, bytes_eq, codes, if◌then◌else◌}
use Rattle.std.specs.Fmt.{digits}
use Rattle.mot_lines.specs.declared.line.Line.{Line}
use Rattle.mot_lines.specs.declared.line.Line.TheVariants as asks
use Rattle.disk_model.specs.Disk.{State}
use Rattle.mot_lines.specs.Line.{line_of}
use Rattle.mot_lines.specs.Text.{refusal_line}
use Rattle.mot_numbers.specs.declared.refusal.Refusal.{Refusal}
use Rattle.mot_numbers.specs.declared.refusal.Refusal.TheVariants as why
use Rattle.mot_numbers.specs.Refusal.{is_device_fault}
use Rattle.mot_objects.specs.declared.command.Command as command
use Rattle.mot_objects.specs.declared.command.Done.{Done}
use Rattle.mot_session.specs.Kept.{IsToldAndStored}
use Rattle.mot_session.specs.Life.{Told, done_in, fails_in, is_done}
use Rattle.mot_session.specs.Session.{Answers, decided, halted, no_memory, IsAnswer}
use Rattle.mot_session.specs.Session.{IsCommandAnswer, NeedsCarousel, packets, raw_packets}
use Rattle.mot_session.specs.Session.{Exchange, Reply, accepted, refused, accepts, refuses, fails}
use Rattle.mot_session.specs.Session.{text_of, ServerState, command_in}
use Rattle.mot_session.specs.Replies.{AreAsked}
use Rattle.mot_session.specs.Served.{Begins, whole, begun}
use Rattle.mot_numbers.specs.declared.geometry.Geometry.{Geometry}
use Rattle.mot_session.proofs.Outcomes.{Outcome, begun_outcome, done_by, failed_by_reply, outcome}
use Rattle.mot_session.specs.Inner.Writes.{accepted_in, failed_in, is_accepting, is_failing}

-- the text is that of a fault of the disk
abbrev pub is_fault : List ℕ → Bool
is_fault text = bytes_eq text (refusal_line why.DeviceFault)

done_of_accepted : (d : Done) → is_done (text_of (accepted d)) ≡ true
unfolding text_of
done_of_accepted d = refl

done_of_refused : (r : Refusal) → is_done (text_of (refused r)) ≡ false
unfolding text_of
done_of_refused r = refl

fault_of_accepted : (d : Done) → is_fault (text_of (accepted d)) ≡ false
unfolding text_of
fault_of_accepted d = refl

fault_of_refused : (r : Refusal) → is_fault (text_of (refused r)) ≡ is_device_fault r
unfolding text_of digits
fault_of_refused why.BadLine = refl
fault_of_refused why.BadName = refl
fault_of_refused why.BadType = refl
fault_of_refused why.BadMime = refl
fault_of_refused why.BadBody = refl
fault_of_refused why.EmptyBody = refl
fault_of_refused why.BodyTooLong = refl
fault_of_refused why.BadNumber = refl
fault_of_refused why.NameTaken = refl
fault_of_refused why.NoSuchName = refl
fault_of_refused why.TooManyObjects = refl
fault_of_refused why.NoRoom = refl
fault_of_refused why.OutOfMemory = refl
fault_of_refused why.DeviceFault = refl
fault_of_refused why.Halted = refl
fault_of_refused why.NotFormatted = refl
fault_of_refused why.AlreadyFormatted = refl
fault_of_refused why.DiskTooSmall = refl
fault_of_refused (why.Damaged slot) = refl
fault_of_refused why.BadGeometry = refl
fault_of_refused why.ReadFault = refl
fault_of_refused why.WriteFault = refl

-- a request that is a command is accepted or refused
abbrev pub Kinds : Result Line Refusal → Reply → Type 0
Kinds request reply = (command_in request ≡ [])
    ⊎ (((d : Done) × (reply ≡ accepted d)) ⊎ ((r : Refusal) × (reply ≡ refused r)))

commanded : (before after : ServerState) (c : command.Command) (reply : Reply)
    → IsCommandAnswer before c reply after → Kinds (Ok (asks.Command c)) reply
commanded before after c reply (accepts d next e outcome a) = inr (inl (d, e))
commanded before after c reply (refuses r e reason stays) = inr (inr (r, e))
commanded before after c reply (fails e rises h) = inr (inr (why.DeviceFault, e))

answered : (before after : ServerState) (request : Result Line Refusal) (reply : Reply)
    → IsAnswer before request reply after → Kinds request reply
unfolding IsAnswer
answered before after (Err r) reply a = inl refl
answered before after (Ok (asks.Command c)) reply a = commanded before after c reply a
answered before after (Ok asks.List) reply a = inl refl
answered before after (Ok (asks.Raw kind tid body)) reply a = inl refl
answered before after (Ok (asks.Next count)) reply a = inl refl
answered before after (Ok asks.Turn) reply a = inl refl

pub kinds : (before after : ServerState) (request : Result Line Refusal) (reply : Reply)
    → Answers before request reply after → Kinds request reply
kinds before after request reply (decided going a) = answered before after request reply a
kinds before after request reply (halted is needs e s) = inr (inr (why.Halted, e))
kinds before after request reply (no_memory needs e s) = inr (inr (why.OutOfMemory, e))

-- what asks for packets is no command
asked-none : (g : Geometry) (request : Result Line Refusal) (ends : List Bool)
    → AreAsked g request true ends → command_in request ≡ []
asked-none g (Err r) ends asked = refl
asked-none g (Ok (asks.Command c)) ends asked = absurd asked
asked-none g (Ok asks.List) ends asked = refl
asked-none g (Ok (asks.Raw kind tid body)) ends asked = refl
asked-none g (Ok (asks.Next count)) ends asked = refl
asked-none g (Ok asks.Turn) ends asked = refl

pub kinds_begun : (before after : ServerState) (request : Result Line Refusal) (reply : Reply)
    → Begins before request reply after → Kinds request reply
kinds_begun before after request reply (whole a) = kinds before after request reply a
kinds_begun before after request reply (begun sents going e p) =
    inl (asked-none before.standing.geometry request _ p.asked)

no_matter : (b c : Bool) (l : List command.Command) → l ≡ []
    → (if b then l else []) ≡ (if c then l else [])
no_matter true true l e = refl
no_matter true false l e = e
no_matter false true l e = sym e
no_matter false false l e = refl

module _ (request : Result Line Refusal) where
  abbrev where_so : Bool → List command.Command
  where_so b = if b then command_in request else []

  done_by_kind : (reply : Reply) → Kinds request reply
      → where_so (is_done (text_of reply)) ≡ where_so (is_accepting reply)
  done_by_kind reply (inl none) =
      no_matter (is_done (text_of reply)) (is_accepting reply) (command_in request) none
  done_by_kind reply (inr (inl (d, e))) = ap where_so
      (ap (λ (r : Reply). is_done (text_of r)) e ∙ done_of_accepted d ∙ sym (ap is_accepting e))
  done_by_kind reply (inr (inr (r, e))) = ap where_so
      (ap (λ (r : Reply). is_done (text_of r)) e ∙ done_of_refused r ∙ sym (ap is_accepting e))

  failing_by_kind : (reply : Reply) → Kinds request reply
      → where_so (is_fault (text_of reply)) ≡ where_so (is_failing reply)
  failing_by_kind reply (inl none) =
      no_matter (is_fault (text_of reply)) (is_failing reply) (command_in request) none
  failing_by_kind reply (inr (inl (d, e))) = ap where_so
      (ap (λ (r : Reply). is_fault (text_of r)) e ∙ fault_of_accepted d ∙ sym (ap is_failing e))
  failing_by_kind reply (inr (inr (r, e))) = ap where_so
      (ap (λ (r : Reply). is_fault (text_of r)) e ∙ fault_of_refused r ∙ sym (ap is_failing e))

-- so what was told stored is what the reply's text tells
module _ (before after : ServerState) (line : List ℕ) (reply : Reply)
    (k : Kinds (line_of line) reply) where
  abbrev told : Told
  told = record { line = line; text = text_of reply }

  abbrev exchange : Exchange
  exchange = record { line = line; reply = reply; after = after }

  pub stored_so : (start now : State)
      → IsToldAndStored start now before (accepted_in exchange) (failed_in exchange) after
      → IsToldAndStored start now before (done_in told) (fails_in told) after
  stored_so start now stored =
      subst (λ l. IsToldAndStored start now before (done_in told) l after)
      (sym (failing_by_kind (line_of line) reply k))
      (subst (λ l. IsToldAndStored start now before l (failed_in exchange) after)
      (sym (done_by_kind (line_of line) reply k)) stored)

  -- and what came of the line is what it tells
  outcome_so : Outcome before after (done_by reply (line_of line))
      (failed_by_reply reply (line_of line))
      → Outcome before after (done_in told) (fails_in told)
  outcome_so what =
      subst (λ l. Outcome before after (done_in told) l)
      (sym (failing_by_kind (line_of line) reply k))
      (subst (λ l. Outcome before after l (failed_by_reply reply (line_of line)))
      (sym (done_by_kind (line_of line) reply k)) what)

module _ (before after : ServerState) (line : List ℕ) (reply : Reply) where
  abbrev OutcomeSo : Type 0
  OutcomeSo = let t : Told = record { line = line; text = text_of reply } in
      Outcome before after (done_in t) (fails_in t)

  pub told_outcome : Answers before (line_of line) reply after → OutcomeSo
  told_outcome a = outcome_so before after line reply (kinds before after (line_of line) reply a)
      (outcome before after (line_of line) reply a)

  pub begun_told : Begins before (line_of line) reply after → OutcomeSo
  begun_told b = outcome_so before after line reply
      (kinds_begun before after (line_of line) reply b)
      (begun_outcome before after (line_of line) reply b)

-- ---- a front that says `done`

no-five : (n : ℕ) → n ≡ 5 → n < 5 → ⊥
no-five n e less = omega (arith, e, less)

five-of : (front : List ℕ) → is_done front ≡ true → length (take 5 front) ≡ 5
five-of front e = ap length ((bytes_eq-Decides (take 5 front) (codes "done ")).0 e)

-- what says `done` says so whatever follows
pub done_of_front : (front rest : List ℕ) → is_done front ≡ true → is_done (front ++ rest) ≡ true
done_of_front [] rest e = absurd (no-five 0 (five-of [] e) (omega arith))
done_of_front (a ∷ []) rest e = absurd (no-five 1 (five-of (a ∷ []) e) (omega arith))
done_of_front (a ∷ b ∷ []) rest e = absurd (no-five 2 (five-of (a ∷ b ∷ []) e) (omega arith))
done_of_front (a ∷ b ∷ c ∷ []) rest e =
    absurd (no-five 3 (five-of (a ∷ b ∷ c ∷ []) e) (omega arith))
done_of_front (a ∷ b ∷ c ∷ d ∷ []) rest e =
    absurd (no-five 4 (five-of (a ∷ b ∷ c ∷ d ∷ []) e) (omega arith))
done_of_front (a ∷ b ∷ c ∷ d ∷ f ∷ more) rest e = e

never : (text : List ℕ) → is_done text ≡ false → is_done text ≡ true → ⊥
never text isnt so = let e : false ≡ true = sym isnt ∙ so in cc

refused_never : (reply : Reply) (r : Refusal) → reply ≡ refused r → is_done (text_of reply) ≡ true
    → ⊥
refused_never reply r e so =
    never (text_of reply) (ap (λ (x : Reply). is_done (text_of x)) e ∙ done_of_refused r) so

packets-never : (ps : List (List ℕ)) → is_done (text_of (packets ps)) ≡ false
unfolding text_of
packets-never [] = refl
packets-never (p ∷ ps) = refl

answer-sure : (before after : ServerState) (request : Result Line Refusal) (reply : Reply)
    → (NeedsCarousel request → IsFalse before.halted) → is_done (text_of reply) ≡ true
    → IsAnswer before request reply after → IsFalse before.halted
unfolding IsAnswer
answer-sure before after (Err r) reply going so a = absurd (refused_never reply r a.0 so)
answer-sure before after (Ok (asks.Command c)) reply going so a = going tt
answer-sure before after (Ok asks.List) reply going so a = going tt
answer-sure before after (Ok (asks.Raw kind tid body)) reply going so a =
    absurd (never (text_of reply) (ap (λ (x : Reply). is_done (text_of x)) a.0
    ∙ packets-never (raw_packets before.standing.geometry kind tid body)) so)
answer-sure before after (Ok (asks.Next count)) reply going so a = going tt
answer-sure before after (Ok asks.Turn) reply going so a = going tt

-- where a reply says `done`, the server was not halted
pub sure : (before after : ServerState) (request : Result Line Refusal) (reply : Reply)
    → Begins before request reply after → is_done (text_of reply) ≡ true → IsFalse before.halted
sure before after request reply (whole (decided going a)) so =
    answer-sure before after request reply going so a
sure before after request reply (whole (halted is needs e s)) so =
    absurd (refused_never reply why.Halted e so)
sure before after request reply (whole (no_memory needs e s)) so =
    absurd (refused_never reply why.OutOfMemory e so)
sure before after request reply (begun sents going e p) so = going

-- no text says both
pub not_both : (text : List ℕ) → (is_done text ≡ false) ⊎ (is_fault text ≡ false)
not_both text = by_case (is_fault text) refl
  where
    by_case : (b : Bool) → is_fault text ≡ b → (is_done text ≡ false) ⊎ (is_fault text ≡ false)
    by_case true e =
        inl (ap is_done ((bytes_eq-Decides text (refusal_line why.DeviceFault)).0 e))
    by_case false e = inr e

-- so its command is the one in flight
pub sure_flight : (b c : Bool) (l : List command.Command) → b ≡ true
    → (b ≡ false) ⊎ (c ≡ false) → (if b then l else []) ++ (if c then l else []) ≡ l
sure_flight true true l is (inl e) = cc
sure_flight true true l is (inr e) = cc
sure_flight true false l is not = append-nil l
sure_flight false c l e not = cc

-- and it is made
pub made_sure : (b : Bool) (l : List command.Command) → b ≡ true → (if b then l else []) ≡ l
made_sure true l is = refl
made_sure false l e = cc
