-- The packets of a session, in order.
use Rattle.std.proofs.Common.{◌≡◌, ℕ, ◌-◌, ◌<◌, Bool, true, false, List, [], ◌∷◌, ◌++◌, None, Some}
use Rattle.std.proofs.Common.{Result, Ok, Err, refl, sym, ap, ◌∙◌, subst, inl, inr, arith, map}
use Rattle.std.specs.Prelude.{if◌then◌else◌, is_some, length, replicate}
use Rattle.std.proofs.lemmas.List.{map-append}
use Rattle.mot_lines.specs.Line.{line_of}
use Rattle.mot_lines.specs.declared.line.Line.{Line}
use Rattle.mot_lines.specs.declared.line.Line.TheVariants as asks
use Rattle.mot_numbers.proofs.Laws.{read_each-append}
use Rattle.mot_numbers.specs.PacketLength.{IsLength}
use Rattle.mot_numbers.specs.Geometry.{IsValid, packet_room}
use Rattle.mot_numbers.specs.declared.refusal.Refusal.{Refusal}
use Rattle.mot_numbers.specs.declared.refusal.Refusal.TheVariants.{DeviceFault}
use Rattle.mot_objects.specs.Carousel.{Carousel}
use Rattle.mot_objects.specs.declared.command.Command.{Command}
use Rattle.mot_packets.specs.Packet.{PacketFields, read_packet}
use Rattle.mot_player.specs.Continuity.{IsContinuous}
use Rattle.mot_player.specs.Laws.{AreSent}
use Rattle.mot_player.specs.Place.{Place, Sent, Step, Request, NewTurn, Follow, change_turn}
use Rattle.mot_player.specs.Place.{changed, follow, sent_by}
use Rattle.mot_player.specs.Turn.{Turn, turn_of_carousel}
use Rattle.mot_player.proofs.Laws.{steps-are-continuous, steps-go_on}
use Rattle.mot_session.specs.Laws.{SessionsAreContinuous}
use Rattle.mot_session.specs.Session.{PlaysForRequest, HasJustOpened, ServerState, Exchange, Reply}
use Rattle.mot_session.specs.Session.{refused, listing, played, IsCommandAnswer, accepts, refuses}
use Rattle.mot_session.specs.Session.{fails, IsAnswer, Answers, decided, halted, no_memory, Session}
use Rattle.mot_session.specs.Session.{packets_in, packets_played}
use Rattle.mot_session.specs.Served.{Begins, whole, begun}

-- steps that led from a place to another, and the packets that they sent
record Leads (before after : Place) (sent : List (List ℕ)) : Type 0 where
  -- the requests and new turns between two places
  pub steps : List Step
  -- what they send
  pub sents : List Sent
  -- they lead from the one place to the other
  pub taken : sent_by before steps ≡ Some (sents, after)
  -- what they send are these packets
  pub read : AreSent sents sent

Leads-none : (place : Place) → Leads place place []
unfolding sent_by
Leads-none place = record { steps = []; sents = []; taken = refl; read = refl }

Leads-anew : (place : Place) (turn : Turn) → Leads place (change_turn turn place) []
unfolding sent_by
Leads-anew place turn =
    record { steps = NewTurn turn ∷ []; sents = []; taken = refl; read = refl }

Leads-follow : (place : Place) (turn : Turn) → Leads place (follow turn place) []
unfolding sent_by
Leads-follow place turn =
    record { steps = Follow turn ∷ []; sents = []; taken = refl; read = refl }

Leads-cases : (place : Place) (turn : Turn) (b : Bool)
    → Leads place (if b then follow turn place else change_turn turn place) []
Leads-cases place turn true = Leads-follow place turn
Leads-cases place turn false = Leads-anew place turn

Leads-change : (place : Place) (c : Carousel) (size : ℕ)
    → Leads place (changed (turn_of_carousel c size) place) []
unfolding changed
Leads-change place c size =
    Leads-cases place (turn_of_carousel c size) (is_some place.follows)

Leads-on : (before mid after : Place) (ps qs : List (List ℕ)) → Leads before mid ps
    → Leads mid after qs
    → Leads before after (ps ++ qs)
Leads-on before mid after ps qs p q = record {
  steps = p.steps ++ q.steps;
  sents = p.sents ++ q.sents;
  taken = steps-go_on p.steps q.steps before mid after p.sents q.sents p.taken q.taken;
  read = read_each-append read_packet ps qs (map (λ (s : Sent). s.packet) p.sents)
      (map (λ (s : Sent). s.packet) q.sents) p.read q.read
      ∙ ap (λ (fs : List PacketFields). Some fs)
      (sym (map-append (λ (s : Sent). s.packet) p.sents q.sents));
}

-- the place stays, and nothing was sent
stays : (before after : ServerState) (reply empty : Reply) → packets_in empty ≡ [] → reply ≡ empty
    → after.place ≡ before.place → Leads before.place after.place (packets_in reply)
stays before after reply empty none e same = rw (e, none, same) (Leads-none before.place)

plays : (before after : ServerState) (request : Result Line Refusal) (reply : Reply)
    (sents : List Sent) (some failed : Bool) → reply ≡ played sents failed
    → PlaysForRequest before request some sents after
    → Leads before.place after.place (packets_in reply)
plays before after request reply sents some failed e p = rw e (record {
  steps = replicate (length sents) Request;
  sents = sents;
  taken = p.sent.steps;
  read = p.sent.read;
})

commanded : (before after : ServerState) (c : Command) (reply : Reply)
    → IsCommandAnswer before c reply after
    → Leads before.place after.place (packets_in reply)
commanded before after c reply (accepts d next e outcome a) = rw (e, a.place)
    (Leads-change before.place next.carousel next.geometry.segment)
commanded before after c reply (refuses r e why s) =
    stays before after reply (refused r) refl e s.place
commanded before after c reply (fails e rises h) =
    stays before after reply (refused DeviceFault) refl e h.place

answered : (before after : ServerState) (request : Result Line Refusal) (reply : Reply)
    → IsAnswer before request reply after → Leads before.place after.place (packets_in reply)
unfolding IsAnswer
answered before after (Err r) reply a = stays before after reply (refused r) refl a.0 a.1.place
answered before after (Ok (asks.Command c)) reply a = commanded before after c reply a
answered before after (Ok asks.List) reply a =
    stays before after reply (listing before.standing.carousel) refl a.0 a.1.place
answered before after (Ok (asks.Raw kind tid body)) reply a =
    stays before after reply _ refl a.0 a.1.place
answered before after (Ok (asks.Next count)) reply a =
    plays before after (Ok (asks.Next count)) reply a.0 a.1 a.1 a.2 a.3
answered before after (Ok asks.Turn) reply a =
    plays before after (Ok asks.Turn) reply a.0 a.1 a.1 a.2 a.3

answers : (before after : ServerState) (request : Result Line Refusal) (reply : Reply)
    → Answers before request reply after → Leads before.place after.place (packets_in reply)
answers before after request reply (decided going a) = answered before after request reply a
answers before after request reply (halted is needs e s) = stays before after reply _ refl e s.place
answers before after request reply (no_memory needs e s) = stays before after reply _ refl e s.place

begins : (before after : ServerState) (request : Result Line Refusal) (reply : Reply)
    → Begins before request reply after → Leads before.place after.place (packets_in reply)
begins before after request reply (whole a) = answers before after request reply a
begins before after request reply (begun sents going e p) =
    plays before after request reply sents true false e p

session : (exchanges : List Exchange) (before after : ServerState)
    → Session before exchanges after → Leads before.place after.place (packets_played exchanges)
unfolding Session
session [] before after s = rw s (Leads-none before.place)
session (x ∷ exchanges) before after s =
    Leads-on before.place x.after.place after.place (packets_in x.reply) (packets_played exchanges)
    (answers before x.after (line_of x.line) x.reply s.0) (session exchanges x.after after s.1)

some_room : (n : ℕ) → IsLength n → 0 < n - 5
some_room n (inl e) = omega (arith, e)
some_room n (inr (inl e)) = omega (arith, e)
some_room n (inr (inr (inl e))) = omega (arith, e)
some_room n (inr (inr (inr e))) = omega (arith, e)

continuous : (before : ServerState) (after : Place) (sent : List (List ℕ))
    → IsValid before.standing.geometry → HasJustOpened before → Leads before.place after sent
    → IsContinuous sent
continuous before after sent v opened l =
    let g = before.standing.geometry in
    let turn = turn_of_carousel before.standing.carousel g.segment in
    steps-are-continuous g.address (packet_room g) g.segment turn None l.steps l.sents after
    sent
    (some_room g.packet v.8)
    (subst (λ (p : Place). sent_by p l.steps ≡ Some (l.sents, after)) opened l.taken) l.read

-- all packets of a session on a server just opened have their indexes
pub sessions-are-continuous : SessionsAreContinuous
sessions-are-continuous before exchanges between request reply after v opened s b =
    continuous before after.place (packets_played exchanges ++ packets_in reply) v opened
    (Leads-on before.place between.place after.place (packets_played exchanges) (packets_in reply)
    (session exchanges before between s) (begins between after request reply b))
