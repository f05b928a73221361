-- Replies to `next` and `turn` lines, packet by packet.
use Rattle.std.proofs.Common.{◌≡◌, ℕ, ◌+◌, ◌<◌, Bool, true, false, List, [], ◌∷◌, ◌++◌, Option}
use Rattle.std.proofs.Common.{Some, None, Ok, Err, sym, ◌∙◌, arith}
use Rattle.std.specs.Prelude.{IsFalse}
use Rattle.std.specs.Io.KnownBytes.{Appends}
use Rattle.mot_lines.specs.declared.line.Line.TheVariants as asks
use Rattle.mot_player.specs.Place.{Sent}
use Rattle.mot_session.specs.declared.serving.output.WriteFault.{WriteFault}
use Rattle.mot_session.specs.Inner.Writes.{AnswersOne, AnswersRequest, sends, fails}
use Rattle.mot_session.specs.Session.{sent_lines, ServerState}
use Rattle.mot_session.proofs.Written.{Answered-turn, AnswersRequest-next_cut}
use Rattle.mot_session.proofs.Written.{AnswersRequest-turn_cut, BrokenOff-next, BrokenOff-turn}
use Rattle.mot_session.proofs.Written.{Sends, Sends-more, SendsTurn-ended, SendsWithinTurn}
use Rattle.mot_session.proofs.Written.{SendsWithinTurn-more, appended-more}

same_bool : (shown : Option Bool) (a b : Bool) → shown ≡ Some a → shown ≡ Some b → a ≡ b
same_bool shown a b e f = let both : Some a ≡ Some b = sym e ∙ f in cc

module _ (before mid after : ServerState) (going : IsFalse before.halted)
    (old now new : Option (List ℕ))
    (made : ℕ) (sents : List Sent) (so_far : Appends old now (sent_lines sents)) where
  -- the line of a request was broken off
  pub next-broken : (fault : WriteFault) (count : ℕ) → made < count → Sends before made sents mid
      → AnswersOne (Err fault) mid after now new
      → AnswersRequest {T = Unit {0}} (Err fault) false before (Ok (asks.Next count)) after old new
  next-broken fault count few s (sends sent one shown w) =
      BrokenOff-next fault before mid after going old now new sent one w made sents so_far count
      (omega (arith, few)) s
  next-broken fault count few s (fails failing shown w) =
      AnswersRequest-next_cut {T = Unit {0}}
      (Err fault) before mid after going old now new made sents so_far failing w
      count few s

  module _ (shown : Option Bool) (one : AnswersOne (Ok shown) mid after now new) where
    -- the request was refused
    next-cut-of : AnswersOne (Ok shown) mid after now new → shown ≡ None → (count : ℕ)
        → made < count
        → Sends before made sents mid
        → AnswersRequest {T = Unit {0}} (Ok tt) false before (Ok (asks.Next count)) after old new
    next-cut-of (sends sent one is w) none count few s =
        let both : Some sent.ends_turn ≡ None = sym is ∙ none in cc
    next-cut-of (fails failing is w) none count few s =
        AnswersRequest-next_cut {T = Unit {0}}
        (Ok tt) before mid after going old now new made sents so_far
        failing w count few s

    -- a `next` line's packets, and the device fault of the request behind them
    pub next-cut : shown ≡ None → (count : ℕ) → made < count → Sends before made sents mid
        → AnswersRequest {T = Unit {0}} (Ok tt) false before (Ok (asks.Next count)) after old new
    next-cut none count few s = next-cut-of one none count few s

    -- a packet was played
    next-more-of : AnswersOne (Ok shown) mid after now new → (e : Bool) → shown ≡ Some e
        → Sends before made sents mid
        → (all : List Sent) × Sends before (made + 1) all after × Appends old new (sent_lines all)
    next-more-of (sends sent one is w) e some s = (
      sents ++ sent ∷ [],
      Sends-more before mid after sent one made sents s,
      appended-more sents sent old now new so_far w,
    )
    next-more-of (fails failing is w) e some s = let both : Some e ≡ None = sym some ∙ is in cc

    -- one more packet of a `next` line, behind those that were sent
    pub next-more : (e : Bool) → shown ≡ Some e → Sends before made sents mid
        → (all : List Sent) × Sends before (made + 1) all after × Appends old new (sent_lines all)
    next-more e some s = next-more-of one e some s

-- what was sent of a `turn` line's packets, none of which ended the turn
pub record SentSoFar (before mid : ServerState) (old now : Option (List ℕ)) : Type 0 where
  pub made : ℕ
  pub sents : List Sent
  pub within : SendsWithinTurn before made sents mid
  pub lines : Appends old now (sent_lines sents)

module _ {before mid after : ServerState} {old now new : Option (List ℕ)}
    (so_far : SentSoFar before mid old now) where
  -- one more packet that does not end the turn
  pub turn-more : {shown : Option Bool} → AnswersOne (Ok shown) mid after now new
      → shown ≡ Some false → SentSoFar before after old new
  turn-more {shown} (sends sent one is w) some = record {
    made = so_far.made + 1;
    sents = so_far.sents ++ sent ∷ [];
    within = SendsWithinTurn-more before mid after sent one so_far.made so_far.sents so_far.within
        (same_bool shown sent.ends_turn false is some);
    lines = appended-more so_far.sents sent old now new so_far.lines w;
  }
  turn-more (fails failing is w) some = let both : Some false ≡ None = sym some ∙ is in cc

  module _ (going : IsFalse before.halted) where
    -- the line of the next packet or of a fault was broken off
    pub turn-broken : {fault : WriteFault} → AnswersOne (Err fault) mid after now new
        → AnswersRequest {T = Unit {0}} (Err fault) false before (Ok asks.Turn) after old new
    turn-broken {fault} (sends sent one shown w) =
        BrokenOff-turn fault before mid after going old now new sent one w so_far.made so_far.sents
        so_far.lines so_far.within
    turn-broken {fault} (fails failing shown w) =
        AnswersRequest-turn_cut {T = Unit {0}} (Err fault) before mid after going old now new
        so_far.made so_far.sents so_far.lines failing w so_far.within

    -- the request behind them failed with a device fault
    pub turn-cut : {shown : Option Bool} → AnswersOne (Ok shown) mid after now new → shown ≡ None
        → AnswersRequest {T = Unit {0}} (Ok tt) false before (Ok asks.Turn) after old new
    turn-cut (sends sent one is w) none =
        let both : Some sent.ends_turn ≡ None = sym is ∙ none in cc
    turn-cut (fails failing is w) none =
        AnswersRequest-turn_cut {T = Unit {0}} (Ok tt) before mid after going old now new
        so_far.made so_far.sents so_far.lines failing w so_far.within

    -- the packet behind them ended the turn
    pub turn-ended : {shown : Option Bool} → AnswersOne (Ok shown) mid after now new
        → shown ≡ Some true
        → AnswersRequest {T = Unit {0}} (Ok tt) false before (Ok asks.Turn) after old new
    turn-ended {shown} (sends sent one is w) some =
        Answered-turn before after going old new so_far.made (so_far.sents ++ sent ∷ [])
        (SendsTurn-ended before mid after sent one so_far.made so_far.sents so_far.within
        (same_bool shown sent.ends_turn true is some))
        (appended-more so_far.sents sent old now new so_far.lines w)
    turn-ended (fails failing is w) some = let both : Some true ≡ None = sym some ∙ is in cc
