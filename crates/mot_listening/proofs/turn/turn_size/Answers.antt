use Rattle.std.proofs.Common.{◌≡◌, ◌≤◌, ◌<◌, ◌+◌, ◌∙◌, ◌∷◌, ◌++◌, ℕ, zero, suc, List, [], ap, append-nil}
use Rattle.std.proofs.Common.{arith, get_or, length, map, refl, subst, take}
use Rattle.std.proofs.lemmas.List.{length-append, map-append, take_more}
use Rattle.std.specs.List.{sum}
use Rattle.mot_base.specs.Checksum.{crc_of}
use Rattle.mot_numbers.specs.PacketLength.{room_of}
use Rattle.mot_objects.specs.Stands.{carousel_of}
use Rattle.mot_objects.specs.declared.object.Object.{Object}
use Rattle.mot_player.specs.Turn.{turn_of_carousel}
use Rattle.mot_listening.specs.Entities.{entity_lengths, turn_lengths}
use Rattle.mot_listening.specs.declared.turn.TurnSize.{TurnSize}
use Rattle.mot_listening.proofs.Counted.{carousel-lengths, entity-behind, same-size, sizes}
use Rattle.mot_listening.proofs.Counted.{sum-append}
use Rattle.mot_listening.proofs.turn.turn_size.Goals as goal

-- as many as there are, or more, are all of them
all_taken : {X : Type 0} (n : ℕ) (xs : List X) → length xs ≤ n → take n xs ≡ xs
all_taken zero [] few = refl
all_taken zero (x ∷ xs) few = absurd (omega (arith, few))
all_taken (suc n) [] few = refl
all_taken (suc n) (x ∷ xs) few = ap (λ l. x ∷ l) (all_taken n xs (omega (arith, few)))

-- the lengths of one object more
sizes-more : (os : List Object) (i : ℕ) (o : Object) → i < length os
    → sizes (take (i + 1) os) ≡ sizes (take i os) ++ (get_or os i o).length ∷ []
sizes-more os i o lt =
    ap sizes (take_more os i o lt)
    ∙ map-append (λ (o : Object). o.length) (take i os) (get_or os i o ∷ [])

-- the packets of the directory, and those of one entity more
first-sum : (f : List ℕ → ℕ) (room size len old new : ℕ) → old ≡ 0
    → new ≡ old + f (entity_lengths room size len) → new ≡ f (turn_lengths room size (len ∷ []))
first-sum f room size len old new none is =
    let all = ap f (append-nil (entity_lengths room size len)) in omega (arith, none, is, all)

next-sum : (f : List ℕ → ℕ) → ((xs ys : List ℕ) → f (xs ++ ys) ≡ f xs + f ys)
    → (room size first i old new : ℕ) (os : List Object) (o : Object) → i < length os
    → old ≡ f (turn_lengths room size (first ∷ sizes (take i os)))
    → new ≡ old + f (entity_lengths room size (get_or os i o).length)
    → new ≡ f (turn_lengths room size (first ∷ sizes (take (i + 1) os)))
next-sum f more room size first i old new os o lt was is =
    let here = entity-behind f more room size (first ∷ sizes (take i os)) (get_or os i o).length in
    let next = ap (λ l. f (turn_lengths room size (first ∷ l))) (sizes-more os i o lt) in
    omega (arith, was, is, here, next)

pub loop-object-init : goal.loop-object-init
loop-object-init c =
    let size : ℕ = c.args.segment_size in
    let room = room_of c.args.full_length in
    let bytes = c.in_ok-directory.directory.items in
    let begun = c.begun-turn.result in
    let one = c.count_entity.ensures in
    let none = c.begun-turn.ensures in
    let packets = ap (λ (t : TurnSize). t.packets) none in
    let count = ap (λ (t : TurnSize). t.bytes) none in
    let few = one.few in
    let len : c.len.result ≡ length bytes = c.len.ensures ∙ c.in_ok-directory.directory.ok.0 in
    record {
      packets = first-sum (λ l. length l) room size (length bytes) begun.packets
          c.count_entity.new.self.packets packets
          (one.packets ∙ ap (λ n. begun.packets + length (entity_lengths room size n)) len);
      bytes = first-sum sum room size (length bytes) begun.bytes c.count_entity.new.self.bytes count
          (one.bytes ∙ ap (λ n. begun.bytes + sum (entity_lengths room size n)) len);
      checksum = one.checksum ∙ ap (λ (t : TurnSize). t.checksum) none ∙ c.crc16.ensures
          ∙ ap crc_of c.deref.ensures.value;
      few = (
        let most = few.0 in omega (arith, packets, most),
        let most = few.1 in omega (arith, count, most),
      );
    }

pub loop-object-preserved : goal.loop-object-preserved
loop-object-preserved c =
    let size : ℕ = c.args.segment_size in
    let room = room_of c.args.full_length in
    let first = length c.in_ok-directory.directory.items in
    let os = c.args.carousel.now.objects.items in
    let o = c.object-item.result in
    let i = c.loop-object.object-index in
    let old = c.loop-object.turn in
    let new = c.count_entity-in-loop-object.new.self in
    let one = c.count_entity-in-loop-object.ensures in
    let is = c.loop-object.invariant in
    let all = c.deref-object-items.ensures.value in
    let lt = subst (λ (l : List Object). i < length l) all c.loop-object-test.true in
    let len : c.get.result ≡ (get_or os i o).length =
    c.get.ensures.value
    ∙ ap (λ (x : Object). x.length) (c.object-item.is ∙ ap (λ (l : List Object). get_or l i o) all) in
    record {
      packets = next-sum (λ l. length l) length-append room size first i old.packets new.packets os o lt
          is.packets (one.packets ∙ ap (λ n. old.packets + length (entity_lengths room size n)) len);
      bytes = next-sum sum sum-append room size first i old.bytes new.bytes os o lt is.bytes
          (one.bytes ∙ ap (λ n. old.bytes + sum (entity_lengths room size n)) len);
      checksum = one.checksum ∙ is.checksum;
      few = (
        let was = is.few.0 in let more = one.few.0 in omega (arith, was, more),
        let was = is.few.1 in let more = one.few.1 in omega (arith, was, more),
      );
    }

pub returns-clause-counted : goal.returns-clause-counted
returns-clause-counted c = λ bodies are.
    let size : ℕ = c.args.segment_size in
    let k = c.args.carousel.now in
    let room = room_of c.args.full_length in
    let bytes = c.in_ok-directory.directory.items in
    let turn = turn_of_carousel (carousel_of k bodies) size in
    let written : bytes ≡ turn.directory = c.in_ok-directory.ensures.written bodies are in
    let all = subst (λ (os : List Object). length os ≤ c.loop-object.object-index)
    c.deref-object-items.ensures.value c.loop-object-test.false in
    let is = c.loop-object.invariant in
    let lengths = ap (λ (os : List Object). turn_lengths room size (length bytes ∷ sizes os))
    (all_taken c.loop-object.object-index k.objects.items all)
    ∙ carousel-lengths room size (length bytes) k bodies are (ap length written) in
    same-size _ _ _ _ _ _ (is.packets ∙ ap length lengths) (is.bytes ∙ ap sum lengths)
    (is.checksum ∙ ap crc_of written)
