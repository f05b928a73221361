-- All packets of a player have its address.
use Rattle.std.proofs.Common.{arith, ◌≡◌, ℕ, List, [], ◌∷◌, Bool, true, Option, Some, refl, sym}
use Rattle.std.proofs.Common.{subst, ap, ◌∙◌, eq-eqb}
use Rattle.std.specs.Prelude.{◌==◌}
use Rattle.std.specs.List.{list_all}
use Rattle.mot_packets.specs.Gather.{have_one_address}
use Rattle.mot_packets.specs.Packet.{PacketFields}
use Rattle.mot_player.specs.Place.{UnderWay, Place, Sent, Step, Request, NewTurn, Directory, Follow}
use Rattle.mot_player.specs.Place.{hear_directory, follow, next_sent, request, change_turn, sent_by}
use Rattle.mot_player.proofs.Requests.{FirstRequest, first_request, no_steps, packets_of}

-- packets that all have a certain address have one address
pub one_address : (address : ℕ) (packets : List PacketFields) →
    list_all (λ (q : PacketFields). q.address == address) packets ≡ true
    → have_one_address packets ≡ true
one_address address packets e = grind arith

-- a request sends a packet with the address, and keeps it
abbrev KeepsAddress : ℕ → Sent → Type 0
KeepsAddress address s = (s.packet.address ≡ address) × (s.place.address ≡ address)

next-address : (place : Place) (u : Option UnderWay) (s : Sent) → next_sent place u ≡ Some s
    → KeepsAddress place.address s
next-address place u s e = grind arith

all-cons : (p : PacketFields → Bool) (x : PacketFields) (xs : List PacketFields) → p x ≡ true
    → list_all p xs ≡ true →
    list_all p (x ∷ xs) ≡ true
all-cons p x xs e f = rw (e, f) refl

-- whatever steps come, all packets have the player's address
pub steps-address : (steps : List Step) (place : Place) (sents : List Sent) (new : Place) →
    sent_by place steps ≡ Some (sents, new) →
    list_all (λ (q : PacketFields). q.address == place.address) (packets_of sents) ≡ true
unfolding sent_by request change_turn hear_directory follow
steps-address [] place sents new h =
    subst (λ ss. list_all (λ (q : PacketFields). q.address == place.address) (packets_of ss) ≡ true)
    (no_steps place sents new h) refl
steps-address (Request ∷ steps) place sents new h =
    let q : FirstRequest place steps sents new = first_request place steps sents new h in
    let keeps : KeepsAddress place.address q.first =
    next-address place place.under_way q.first q.asked in
    let others : list_all (λ (p : PacketFields). p.address == place.address) (packets_of q.others)
    ≡ true =
    ap (λ a. list_all (λ (p : PacketFields). p.address == a) (packets_of q.others)) (sym keeps.1)
    ∙ steps-address steps q.first.place q.others new q.rest in
    subst (λ ss. list_all (λ (p : PacketFields). p.address == place.address) (packets_of ss) ≡ true)
    (sym q.all)
    (all-cons (λ (p : PacketFields). p.address == place.address) q.first.packet
    (packets_of q.others)
    (eq-eqb q.first.packet.address place.address keeps.0) others)
steps-address (NewTurn turn ∷ steps) place sents new h =
    steps-address steps (change_turn turn place) sents new h
steps-address (Directory ∷ steps) place sents new h =
    steps-address steps (hear_directory place) sents new h
steps-address (Follow turn ∷ steps) place sents new h =
    steps-address steps (follow turn place) sents new h
