-- Up to the end of a turn each body that stays is begun whole.
use Rattle.std.proofs.Common.{◌≡◌, ℕ, ◌<◌, Bool, true, false, List, [], ◌∷◌, ◌++◌, take, Option}
use Rattle.std.proofs.Common.{Some, None, refl, sym, ap, ◌∙◌, subst, append-nil}
use Rattle.std.proofs.lemmas.Bool.{and_parts}
use Rattle.std.proofs.lemmas.List.Elements.{filter-append}
use Rattle.std.proofs.lemmas.Option.{none-some, same_Some}
use Rattle.std.specs.Prelude.{◌==◌, ◌&&◌, if◌then◌else◌}
use Rattle.mot_groups.specs.Entity.{own_segments}
use Rattle.mot_groups.specs.Group.{GroupFields, Segment, bytes_of_group}
use Rattle.mot_listening.specs.Ends.{BodiesComeWhole}
use Rattle.mot_numbers.specs.Reading.{is_empty}
use Rattle.mot_player.specs.Place.{Place, Sent, Step, Request, NewTurn, Directory, Follow, UnderWay}
use Rattle.mot_player.specs.Place.{first_sent, follow, group_for, hear_directory, left_of}
use Rattle.mot_player.specs.Place.{left_with}
use Rattle.mot_player.specs.Place.{next_sent, packet_sent, request, sent_by, to_send, with_begun}
use Rattle.mot_player.specs.Repeats.{ends_at_last}
use Rattle.mot_player.specs.Staying.{HasDirectory, Stays, begun_by, begun_with}
use Rattle.mot_player.specs.Turn.{Turn}
use Rattle.mot_player.proofs.Laws.{FirstBegun, FirstRequest, KeepsTurn, begun_none, bodies-go_on}
use Rattle.mot_player.proofs.Laws.{first_begun, first_request, next-keeps, no_steps, own-followed}
use Rattle.mot_player.proofs.Laws.{own-heard}
use Rattle.mot_listening.proofs.DirectoryNext.{asked-next}

abbrev own : ℕ → Segment → Bool
own id s = s.kind == 4 && s.tid == id

-- steps that send nothing begin nothing
none-begun : (steps : List Step) (place new : Place) (sents : List Sent) (begun : List Segment) →
    sent_by place steps ≡ Some (sents, new) → begun_by place steps ≡ Some begun →
    is_empty sents ≡ true → begun ≡ []
unfolding sent_by begun_by
none-begun [] place new sents begun h b none = sym (begun_none place begun b)
none-begun (Request ∷ steps) place new sents begun h b none =
    let q : FirstRequest place steps sents new = first_request place steps sents new h in
    absurd (let f : false ≡ true = ap (λ (ss : List Sent). is_empty ss) (sym q.all) ∙ none in cc)
none-begun (NewTurn turn ∷ steps) place new sents begun h b none =
    none-begun steps _ new sents begun h b none
none-begun (Directory ∷ steps) place new sents begun h b none =
    none-begun steps (hear_directory place) new sents begun h b none
none-begun (Follow turn ∷ steps) place new sents begun h b none =
    none-begun steps (follow turn place) new sents begun h b none

empty-is : (segments : List Segment) → is_empty segments ≡ true → segments ≡ []
empty-is [] e = refl
empty-is (s ∷ segments) e = absurd (let f : false ≡ true = e in cc)

-- the packet that ends a turn begins all that was left, or nothing was
packet-last : (place : Place) (group : List ℕ) (at : ℕ) →
    (packet_sent place group at).ends_turn ≡ true → place.waiting ≡ []
packet-last place group at e =
    empty-is place.waiting
    (and_parts (packet_sent place group at).packet.last (is_empty place.waiting) e).1

first-last : (place : Place) (segments : List Segment) (s : Sent) →
    first_sent place segments ≡ Some s → s.ends_turn ≡ true → take 1 segments ≡ segments
first-last place [] s e f = absurd (none-some s e)
first-last place (t ∷ segments) s e f =
    let g : GroupFields = group_for place t in
    let begun : Place = with_begun place g segments in
    let first : Sent = packet_sent begun (bytes_of_group g) 0 in
    let same : first ≡ s = same_Some first s e in
    ap (λ (ss : List Segment). t ∷ ss)
    (sym (packet-last begun (bytes_of_group g) 0 (ap (λ (x : Sent). x.ends_turn) same ∙ f)))

next-last : (place : Place) (u : Option UnderWay) (s : Sent) → next_sent place u ≡ Some s →
    s.ends_turn ≡ true → begun_with place u ≡ left_with place u
next-last place None s e f = first-last place (to_send place) s e f
next-last place (Some u) s e f =
    let same : packet_sent place u.group u.sent ≡ s =
    same_Some (packet_sent place u.group u.sent) s e in
    sym (packet-last place u.group u.sent (ap (λ (x : Sent). x.ends_turn) same ∙ f))

one-begun : (place : Place) (s : Sent) (id : ℕ) → 0 < place.segment_size →
    HasDirectory place.turn → request place ≡ Some s → s.ends_turn ≡ false →
    own_segments 4 id (begun_with place place.under_way) ++ own_segments 4 id (left_of s.place)
    ≡ own_segments 4 id (left_of place)
unfolding sent_by begun_by
one-begun place s id some has e f =
    let first : List Segment = begun_with place place.under_way in
    ap (λ (bs : List Segment). own_segments 4 id bs ++ own_segments 4 id (left_of s.place))
    (sym (append-nil first))
    ∙ bodies-go_on place s.place (Request ∷ []) (s ∷ []) (first ++ []) id some has
    (rw e refl) (rw e refl) (rw f refl) tt

module _ (id : ℕ) where
  come : (steps : List Step) (place new : Place) (sents : List Sent) (begun : List Segment) →
      0 < place.segment_size → HasDirectory place.turn → sent_by place steps ≡ Some (sents, new) →
      begun_by place steps ≡ Some begun → ends_at_last sents ≡ true →
      Stays id place.turn steps → own_segments 4 id begun ≡ own_segments 4 id (left_of place)
  unfolding sent_by begun_by hear_directory follow
  come [] place new sents begun some has h b ends stays =
      absurd (let f : false ≡ true = ap ends_at_last (no_steps place sents new h) ∙ ends in cc)
  come (Request ∷ steps) place new sents begun some has h b ends stays =
      let q : FirstRequest place steps sents new = first_request place steps sents new h in
      let r : FirstBegun place steps begun = first_begun place steps begun b in
      let same : r.first ≡ q.first = same_Some r.first q.first (sym r.asked ∙ q.asked) in
      let rest : begun_by q.first.place steps ≡ Some r.others =
      ap (λ (s : Sent). begun_by s.place steps) (sym same) ∙ r.rest in
      let asked = asked-next place q.first q.asked in
      let keeps : KeepsTurn place q.first = next-keeps place place.under_way q.first asked in
      let first : List Segment = begun_with place place.under_way in
      last-cases place q.first q.others first r.others begun r.all (q.first.ends_turn) refl
      (λ e none.
      ap (own_segments 4 id) (r.all
      ∙ ap (λ (ss : List Segment). first ++ ss)
      (none-begun steps q.first.place new q.others r.others q.rest rest none)
      ∙ append-nil first ∙ next-last place place.under_way q.first asked e))
      (λ e more.
      ap (own_segments 4 id) r.all ∙ filter-append (own id) first r.others
      ∙ ap (λ (ss : List Segment). own_segments 4 id first ++ ss)
      (come steps q.first.place new q.others r.others
      (subst (λ (n : ℕ). 0 < n) (sym keeps.0) some)
      (subst HasDirectory (sym keeps.1) has) q.rest rest more
      (subst (λ (t : Turn). Stays id t steps) (sym keeps.1) stays))
      ∙ one-begun place q.first id some has q.asked e)
      (ap ends_at_last (sym q.all) ∙ ends)
    where
      last-cases : (place : Place) (s : Sent) (others : List Sent)
          (first rest begun : List Segment) → begun ≡ first ++ rest → (b : Bool) →
          s.ends_turn ≡ b →
          (s.ends_turn ≡ true → is_empty others ≡ true →
          own_segments 4 id begun ≡ own_segments 4 id (left_of place)) →
          (s.ends_turn ≡ false → ends_at_last others ≡ true →
          own_segments 4 id begun ≡ own_segments 4 id (left_of place)) →
          (if b then is_empty others else ends_at_last others) ≡ true →
          own_segments 4 id begun ≡ own_segments 4 id (left_of place)
      last-cases place s others first rest begun all true e f g h = f e h
      last-cases place s others first rest begun all false e f g h = g e h
  come (NewTurn turn ∷ steps) place new sents begun some has h b ends stays = absurd stays
  come (Directory ∷ steps) place new sents begun some has h b ends stays =
      come steps (hear_directory place) new sents begun some has h b ends stays
      ∙ own-heard id place some has
  come (Follow turn ∷ steps) place new sents begun some has h b ends stays =
      come steps (follow turn place) new sents begun some stays.0 h b ends stays.2
      ∙ own-followed id turn place some stays.0 stays.1

pub bodies_come_whole : BodiesComeWhole
bodies_come_whole place new steps sents begun id some has h b ends stays =
    come id steps place new sents begun some has h b ends stays
