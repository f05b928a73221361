-- What is answered on every disk, whatever it holds.
use Rattle.std.proofs.Common.{◌≡◌, ℕ, ◌+◌, ◌<◌, Bool, true, false, List, [], ◌∷◌, ◌++◌, length}
use Rattle.std.proofs.Common.{Option, Some, None, Result, Ok, Err, refl, sym, ap, ◌∙◌, subst}
use Rattle.std.proofs.Common.{append-nil, inl, inr}
use Rattle.std.specs.Prelude.{replicate, IsTrue, IsFalse}
use Rattle.std.specs.Io.KnownBytes.{Appends, Keeps}
use Rattle.std.proofs.KnownBytes.{Appends-kept, Appends-trans}
use Rattle.std.proofs.lemmas.List.{length-map, map-append, replicate_more}
use Rattle.std.proofs.lemmas.List.Concat.{flat_map-append}
use Rattle.disk_model.specs.Disk.{State, Rises}
use Rattle.mot_lines.specs.declared.line.Line.{Line}
use Rattle.mot_lines.specs.declared.line.Line.TheVariants as asks
use Rattle.mot_lines.specs.Line.{IsParsed, NeedsMemory}
use Rattle.mot_lines.specs.Text.{done_line, played_line, refusal_line}
use Rattle.mot_numbers.specs.declared.refusal.Refusal.{Refusal}
use Rattle.mot_numbers.specs.declared.refusal.Refusal.TheVariants.{OutOfMemory, DeviceFault, Halted}
use Rattle.mot_objects.specs.declared.command.Command.{Command}
use Rattle.mot_objects.specs.declared.command.Done.{Done}
use Rattle.mot_repository.specs.Answers.{IsAnswered, accepted, refused, failed}
use Rattle.mot_repository.specs.Repository.{RepositoryView}
use Rattle.mot_playout.proofs.Laws.{not_ok}
use Rattle.mot_session.specs.declared.deciding.Decision.{Decision}
use Rattle.mot_session.specs.declared.deciding.Decision.TheVariants.{Refused, Accepted, Listing}
use Rattle.mot_session.specs.declared.deciding.Decision.TheVariants.{Packets, Next, Turn}
use Rattle.mot_session.specs.declared.serving.output.WriteFault.{WriteFault}
use Rattle.mot_session.specs.Inner.Anyhow.{AnswersWithAnyhow, DecidesAnyhow, ShowsOne, fails, shows}
use Rattle.mot_session.specs.Served.{Writes, WritesFront}
use Rattle.mot_session.specs.Replies.{Shown, ends_of, shown_lines}
use Rattle.mot_session.specs.OnAnyDisk.{AnswersAnyhow}
use Rattle.mot_session.specs.OnAnyDisk as anyhow
use Rattle.mot_session.specs.Session.{NeedsCarousel}
use Rattle.mot_session.proofs.Fronts.{WritesFront-after, WritesFront-all}

-- ---- commands

abbrev pub failure : Refusal → Result Done Refusal
failure refusal = Err refusal

pub same_refusal : (r was : Refusal) → failure r ≡ failure was → was ≡ r
same_refusal r was e = cc

abbrev pub success : Done → Result Done Refusal
success done = Ok done

pub same_done : (d done : Done) → success done ≡ success d → d ≡ done
same_done d done e = cc

module _ (view view' : RepositoryView) (state state' : State) (c : Command) where
  -- an accepted command is answered with its ids, on every disk
  pub anyhow-accepted : (done : Done) → IsFalse view.halted
      → IsAnswered view view' state state' c (Ok done)
      → AnswersAnyhow view view' state.failures state'.failures (Ok (asks.Command c))
      (done_line done)
  anyhow-accepted done going (accepted d e changed) =
      anyhow.accepted c d refl going changed (ap done_line (sym (same_done d done e)))
  anyhow-accepted done going (refused r e why same still) = absurd (not_ok done r (sym e))
  anyhow-accepted done going (failed e was rises halts) = absurd (not_ok done DeviceFault (sym e))

  -- a refused command is answered with its refusal, on every disk
  pub anyhow-refused : (refusal : Refusal) → IsAnswered view view' state state' c (Err refusal)
      → AnswersAnyhow view view' state.failures state'.failures (Ok (asks.Command c))
      (refusal_line refusal)
  anyhow-refused refusal (accepted d e changed) = absurd (not_ok d refusal e)
  anyhow-refused refusal (refused r e why same still) =
      anyhow.refused c r refl why same (ap refusal_line (sym (same_refusal refusal r e)))
  anyhow-refused refusal (failed e was rises halts) =
      anyhow.failed c refl was rises halts
      (ap refusal_line (sym (same_refusal refusal DeviceFault e)))

-- ---- requests

-- what is shown or played is decided so, unless the server is halted
pub anyhow-shown : (view : RepositoryView) (count : ℕ) (request : Result Line Refusal)
    (decision result : Decision) → NeedsCarousel request
    → (IsTrue view.halted → result ≡ Refused Halted) → (IsFalse view.halted → result ≡ decision)
    → (IsFalse view.halted → DecidesAnyhow view view count count request decision)
    → DecidesAnyhow view view count count request result
anyhow-shown view count request decision result needs is isnt decides = by_case view.halted refl
  where
    by_case : (b : Bool) → view.halted ≡ b → DecidesAnyhow view view count count request result
    by_case true e = subst (λ d. DecidesAnyhow view view count count request d) (sym (is e))
        (anyhow.halted e needs refl refl)
    by_case false e = subst (λ d. DecidesAnyhow view view count count request d) (sym (isnt e))
        (decides e)

-- a line that asks for packets was parsed
pub plays-parsed : (line : Line) (request asked : Result Line Refusal) → IsParsed request asked
    → request ≡ Ok line → asked ≡ Ok line
plays-parsed line request asked (inl e) h = sym e ∙ h
plays-parsed line request asked (inr e) h = let failed = e.0 in absurd (cc)

abbrev asked_wrong : Result Line Refusal
asked_wrong = Err OutOfMemory

module _ (old new : RepositoryView) (before now : ℕ) where
  -- the line was parsed, or there was no memory for it
  answers-unparsed : (text : List ℕ) (request asked : Result Line Refusal)
      → request ≡ asked_wrong → NeedsMemory asked
      → AnswersAnyhow old new before now request text
      → AnswersAnyhow old new before now asked text
  answers-unparsed text request asked wrong needs (anyhow.no_request r e same t) =
      let is : OutOfMemory ≡ r = cc in
      anyhow.no_memory needs same (t ∙ ap refusal_line (sym is))
  answers-unparsed text request asked wrong needs (anyhow.accepted c done e going changed t) =
      absurd (cc)
  answers-unparsed text request asked wrong needs (anyhow.refused c r e why same t) = absurd (cc)
  answers-unparsed text request asked wrong needs (anyhow.failed c e going rises halts t) =
      absurd (cc)
  answers-unparsed text request asked wrong needs (anyhow.listed e going same t) = absurd (cc)
  answers-unparsed text request asked wrong needs (anyhow.raw kind tid body e same t) =
      absurd (cc)
  answers-unparsed text request asked wrong needs
      (anyhow.played shown is_cut wants going same asked_so rises t) =
      absurd (subst NeedsCarousel wrong wants)
  answers-unparsed text request asked wrong needs (anyhow.halted is n same t) =
      absurd (subst NeedsCarousel wrong n)
  answers-unparsed text request asked wrong needs (anyhow.no_memory n same t) =
      anyhow.no_memory needs same t

  -- a text that answers what was parsed answers what was asked, on every disk
  pub answers-parsed : (text : List ℕ) (request asked : Result Line Refusal)
      → IsParsed request asked → AnswersAnyhow old new before now request text
      → AnswersAnyhow old new before now asked text
  answers-parsed text request asked (inl e) a =
      subst (λ r. AnswersAnyhow old new before now r text) e a
  answers-parsed text request asked (inr e) a =
      answers-unparsed text request asked e.0 e.1 a

  -- a decision on what was parsed is one on what was asked, on every disk
  pub anyhow-parsed : (decision : Decision) (request asked : Result Line Refusal)
      → IsParsed request asked → DecidesAnyhow old new before now request decision
      → DecidesAnyhow old new before now asked decision
  anyhow-parsed (Refused r) request asked o d = answers-parsed _ request asked o d
  anyhow-parsed (Accepted a) request asked o d = answers-parsed _ request asked o d
  anyhow-parsed Listing request asked o d = answers-parsed _ request asked o d
  anyhow-parsed (Packets group) request asked o d = answers-parsed _ request asked o d
  anyhow-parsed (Next count) request asked o d =
      (plays-parsed (asks.Next count) request asked o d.0, d.1, d.2, d.3)
  anyhow-parsed Turn request asked o d =
      (plays-parsed asks.Turn request asked o d.0, d.1, d.2, d.3)

  -- ---- what was written

  -- a text that answers, written whole or in part, answers so or is broken off
  pub anyhow-written : {T : Type 0} (result : Result T WriteFault)
      (request : Result Line Refusal) (text : List ℕ) (written then : Option (List ℕ))
      → AnswersAnyhow old new before now request text → Writes result text written then
      → AnswersWithAnyhow result old new before now request written then
  anyhow-written (Ok done) request text written then a w = (text, a, w)
  anyhow-written (Err fault) request text written then a w = (text, anyhow.whole a, w)

  -- a flush keeps what was written, and may fail after all of it
  pub anyhow-kept : {T : Type 0} (result : Result T WriteFault) (request : Result Line Refusal)
      (written mid then : Option (List ℕ))
      → ((text : List ℕ) × AnswersAnyhow old new before now request text
      × Appends written mid text) → Keeps mid then
      → AnswersWithAnyhow result old new before now request written then
  anyhow-kept (Ok done) request written mid then a k =
      (a.0, a.1, Appends-kept written mid then a.0 a.2 k)
  anyhow-kept (Err fault) request written mid then a k = (
    a.0,
    anyhow.whole a.1,
    WritesFront-all a.0 written then (Appends-kept written mid then a.0 a.2 k),
  )

-- what was played is of the request and of what was kept before
pub anyhow-played : {T : Type 0} (result : Result T WriteFault) (old mid new : RepositoryView)
    (before between now : ℕ) (line : Line) (request : Result Line Refusal)
    (written then : Option (List ℕ)) → request ≡ Ok line → mid ≡ old → between ≡ before
    → AnswersWithAnyhow result mid new between now (Ok line) written then
    → AnswersWithAnyhow result old new before now request written then
anyhow-played result old mid new before between now line request written then e same count a =
    subst (λ (r : Result Line Refusal).
    AnswersWithAnyhow result old new before now r written then) (sym e)
    (subst (λ n. AnswersWithAnyhow result old new n now (Ok line) written then) count
    (subst (λ v. AnswersWithAnyhow result v new between now (Ok line) written then) same a))

-- ---- packets, one after the other

shown-more : (shown : List Shown) (p : Shown)
    → shown_lines (shown ++ p ∷ []) ≡ shown_lines shown ++ played_line p.0 p.1
shown-more shown p = flat_map-append (λ (q : Shown). played_line q.0 q.1) shown (p ∷ [])
    ∙ ap (λ l. shown_lines shown ++ l) (append-nil (played_line p.0 p.1))

-- none of so many packets ends a turn
abbrev AreWithinTurn : ℕ → List Shown → Type 0
AreWithinTurn count shown = ends_of shown ≡ replicate count false

within-more : (count : ℕ) (shown : List Shown) (p : Shown) → AreWithinTurn count shown
    → p.1 ≡ false → AreWithinTurn (count + 1) (shown ++ p ∷ [])
within-more count shown p w e =
    map-append (λ (q : Shown). q.1) shown (p ∷ [])
    ∙ ap (λ l. l ++ p.1 ∷ []) w ∙ ap (λ b. replicate count false ++ b ∷ []) e
    ∙ replicate_more count false

not-both : (a b : Bool) → Some a ≡ Some b → a ≡ b
not-both a b e = cc

module _ (view view' : RepositoryView) (same : view' ≡ view) (going : IsFalse view.halted)
    (before mid now : ℕ) (calm : mid ≡ before) (written so_far then : Option (List ℕ))
    (shown : List Shown) (appended : Appends written so_far (shown_lines shown)) where
  -- one packet more
  pub one-more : (value : Option Bool) (ends : Bool)
      → ShowsOne (Ok value) mid now so_far then → value ≡ Some ends
      → (p : Shown) × (p.1 ≡ ends) × (now ≡ before)
      × Appends written then (shown_lines (shown ++ p ∷ []))
  one-more value ends (shows packet last calm' is w) e = (
    (packet, last),
    not-both last ends (sym is ∙ e),
    calm' ∙ calm,
    subst (Appends written then) (sym (shown-more shown (packet, last)))
        (Appends-trans written so_far then (shown_lines shown) (played_line packet last)
        appended w),
  )
  one-more value ends (fails rises is w) e = let none = is in absurd (cc)

  -- the request behind them failed
  cut : (value : Option Bool) → ShowsOne (Ok value) mid now so_far then → value ≡ None
      → Rises before now
      × Appends written then (shown_lines shown ++ refusal_line DeviceFault)
  cut value (shows packet last calm' is w) e = let some = is in absurd (cc)
  cut value (fails rises is w) e = (
    subst (λ n. Rises n now) calm rises,
    Appends-trans written so_far then (shown_lines shown) (refusal_line DeviceFault) appended w,
  )

  less : (count : ℕ) → length shown < count → length (ends_of shown) < count
  less count few = subst (λ n. n < count) (sym (length-map shown (λ (p : Shown). p.1))) few

  -- a `next` line's packets, cut short by a device fault, where both were written
  pub next-cut : (value : Option Bool) (count : ℕ) → ShowsOne (Ok value) mid now so_far then
      → value ≡ None → length shown < count
      → AnswersWithAnyhow {T = Unit {0}} (Ok tt) view view' before now (Ok (asks.Next count))
      written then
  next-cut value count one e few = let c = cut value one e in
      (_, anyhow.played shown true tt going same (less count few) (λ _. c.0) refl, c.1)

  -- the line of the packet behind them, or of the fault, was broken off
  pub next-broken : (fault : WriteFault) (count : ℕ)
      → ShowsOne (Err fault) mid now so_far then → length shown < count
      → AnswersWithAnyhow {T = Unit {0}} (Err fault) view view' before now
      (Ok (asks.Next count)) written then
  next-broken fault count (shows packet last calm' is w) few = (
    shown_lines (shown ++ (packet, last) ∷ []),
    anyhow.begun shown (packet, last) tt going same (less count few) refl,
    subst (λ l. WritesFront l written then) (sym (shown-more shown (packet, last)))
        (WritesFront-after (shown_lines shown) (played_line packet last) written so_far then
        appended w),
  )
  next-broken fault count (fails rises is w) few = (
    _,
    anyhow.whole (anyhow.played shown true tt going same (less count few)
        (λ _. subst (λ n. Rises n now) calm rises) refl),
    WritesFront-after (shown_lines shown) (refusal_line DeviceFault) written so_far then
        appended w,
  )

never_failed : (before now : ℕ) → IsTrue false → Rises before now
never_failed before now e = absurd (cc)

-- so many packets, where none was cut off
pub next-all : (old new : RepositoryView) (before now count : ℕ) (shown : List Shown)
    → new ≡ old → IsFalse old.halted → length shown ≡ count
    → AnswersAnyhow old new before now (Ok (asks.Next count)) (shown_lines shown)
next-all old new before now count shown same going all =
    anyhow.played shown false tt going same (length-map shown (λ (p : Shown). p.1) ∙ all)
    (never_failed before now) (sym (append-nil (shown_lines shown)))

-- what was shown of a `turn` line's packets, none of which ended the turn
pub record ShownSoFar (before mid : ℕ) (written so_far : Option (List ℕ)) : Type 0 where
  pub count : ℕ
  pub shown : List Shown
  pub within : AreWithinTurn count shown
  pub lines : Appends written so_far (shown_lines shown)
  pub calm : mid ≡ before

module _ {view view' : RepositoryView} (same : view' ≡ view) (going : IsFalse view.halted)
    {before mid now : ℕ} {written known then : Option (List ℕ)}
    (so_far : ShownSoFar before mid written known) where
  -- one more packet that does not end the turn
  pub turn-more : {value : Option Bool} → ShowsOne (Ok value) mid now known then
      → value ≡ Some false → ShownSoFar before now written then
  turn-more {value} one e =
      let more = one-more view view' same going before mid now so_far.calm written known then
      so_far.shown so_far.lines value false one e in
      record {
        count = so_far.count + 1;
        shown = so_far.shown ++ more.0 ∷ [];
        within = within-more so_far.count so_far.shown more.0 so_far.within more.1;
        lines = more.3;
        calm = more.2;
      }

  -- the request behind them failed with a device fault
  pub turn-cut : {value : Option Bool} → ShowsOne (Ok value) mid now known then → value ≡ None
      → AnswersWithAnyhow {T = Unit {0}} (Ok tt) view view' before now (Ok asks.Turn)
      written then
  turn-cut {value} one e =
      let c = cut view view' same going before mid now so_far.calm written known then so_far.shown
      so_far.lines value one e in (
        _,
        anyhow.played so_far.shown true tt going same (so_far.count, so_far.within) (λ _. c.0)
            refl,
        c.1,
      )

  -- the packet behind them ended the turn
  pub turn-ended : {value : Option Bool} → ShowsOne (Ok value) mid now known then
      → value ≡ Some true
      → AnswersWithAnyhow {T = Unit {0}} (Ok tt) view view' before now (Ok asks.Turn)
      written then
  turn-ended (shows packet last calm is w) e =
      let ends : last ≡ true = not-both last true (sym is ∙ e) in (
        shown_lines so_far.shown ++ played_line packet true,
        anyhow.played (so_far.shown ++ (packet, true) ∷ []) false tt going same (
          so_far.count,
          map-append (λ (q : Shown). q.1) so_far.shown ((packet, true) ∷ [])
              ∙ ap (λ l. l ++ true ∷ []) so_far.within,
        ) (never_failed before now)
            (sym (append-nil (shown_lines (so_far.shown ++ (packet, true) ∷ []))
            ∙ shown-more so_far.shown (packet, true))),
        Appends-trans written known then (shown_lines so_far.shown) (played_line packet true)
            so_far.lines (subst (λ b. Appends known then (played_line packet b)) ends w),
      )
  turn-ended (fails rises is w) e = let none = is in absurd (cc)

  -- the line of the next packet or of a fault was broken off
  pub turn-broken : {fault : WriteFault} → ShowsOne (Err fault) mid now known then
      → AnswersWithAnyhow {T = Unit {0}} (Err fault) view view' before now (Ok asks.Turn)
      written then
  turn-broken (shows packet last calm is w) = (
    _,
    anyhow.begun so_far.shown (packet, last) tt going same (so_far.count, so_far.within)
        (sym (shown-more so_far.shown (packet, last))),
    WritesFront-after (shown_lines so_far.shown) (played_line packet last) written known then
        so_far.lines w,
  )
  turn-broken (fails rises is w) = (
    _,
    anyhow.whole (anyhow.played so_far.shown true tt going same (so_far.count, so_far.within)
        (λ _. subst (λ n. Rises n now) so_far.calm rises) refl),
    WritesFront-after (shown_lines so_far.shown) (refusal_line DeviceFault) written known then
        so_far.lines w,
  )
