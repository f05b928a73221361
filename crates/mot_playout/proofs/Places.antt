-- What a run makes of the player's place.
use Rattle.std.proofs.Common.{◌≡◌, ℕ, Bool, List, [], ◌∷◌, ◌++◌, Option, Some, None, Ok, Result}
use Rattle.std.proofs.Common.{refl, sym, ◌∙◌, ap, subst}
use Rattle.std.specs.Option.{option_map_or}
use Rattle.mot_journal.specs.declared.layout.Layout.{Layout}
use Rattle.mot_journal.specs.Image.{Standing}
use Rattle.mot_numbers.specs.Reading.{◌>>=◌}
use Rattle.mot_numbers.specs.declared.geometry.Geometry.{Geometry}
use Rattle.mot_numbers.specs.declared.refusal.Refusal.{Refusal}
use Rattle.mot_objects.specs.declared.command.Command.{Command}
use Rattle.mot_objects.specs.declared.command.Done.{Done}
use Rattle.mot_objects.specs.Carousel.{Carousel, carousel_after, carousel_if_accepted, change}
use Rattle.mot_player.specs.Place.{Place, change_turn, changed}
use Rattle.mot_player.specs.PlayerView as player
use Rattle.mot_player.specs.Turn.{Turn, turn_of_carousel}
use Rattle.mot_repository.specs.Outcome.{after_command}
use Rattle.mot_repository.proofs.Laws.{accepted_parts}
use Rattle.mot_playout.specs.RunEnds.{TurnsBeginAnew, place_after, place_anew, place_behind}
use Rattle.mot_playout.specs.Runs.{accepted_commands, IsAfter, ServerView, bodies_of, place_in}
use Rattle.mot_playout.proofs.Runs.{after_none, after_one}

same-carousel : (c d : Carousel) → Some c ≡ Some d → c ≡ d
same-carousel c d e = cc

abbrev IsThere : Option Carousel → Type 0
IsThere None = ⊥
IsThere (Some c) = Unit {0}

not_there : (c : Carousel) → None ≡ Some c → ⊥
not_there c e = subst IsThere (sym e) tt

-- ---- commands in a row

both-cases : (limit size : ℕ) (commands others : List Command) (mid : Carousel) (place : Place)
    (o : Option Carousel) → (o >>= λ next. carousel_after next limit commands) ≡ Some mid
    → ((next : Carousel) (p : Place) → carousel_after next limit commands ≡ Some mid
    → place_after limit size next (commands ++ others) p
    ≡ place_after limit size mid others (place_after limit size next commands p))
    → option_map_or (λ next. place_after limit size next (commands ++ others)
    (changed (turn_of_carousel next size) place)) o place
    ≡ place_after limit size mid others (option_map_or (λ next.
    place_after limit size next commands (changed (turn_of_carousel next size) place)) o place)
both-cases limit size commands others mid place None e rest = absurd (not_there mid e)
both-cases limit size commands others mid place (Some next) e rest =
    rest next (changed (turn_of_carousel next size) place) e

-- behind more commands, from the carousel that the first of them make
pub after-both : (limit size : ℕ) (commands others : List Command) (c mid : Carousel)
    (place : Place) → carousel_after c limit commands ≡ Some mid
    → place_after limit size c (commands ++ others) place
    ≡ place_after limit size mid others (place_after limit size c commands place)
unfolding carousel_after
after-both limit size [] others c mid place e =
    ap (λ k. place_after limit size k others place) (same-carousel c mid e)
after-both limit size (command ∷ commands) others c mid place e =
    both-cases limit size commands others mid place (carousel_if_accepted (change c limit command))
    e (λ next p rest. after-both limit size commands others next mid p rest)

-- the same of what a disk stands for
pub behind_both : (s mid : Standing) (commands others : List Command) (place : Place)
    → IsAfter s commands mid
    → place_behind s (commands ++ others) place
    ≡ place_behind mid others (place_behind s commands place)
behind_both s mid commands others place after =
    after-both s.geometry.objects s.geometry.segment commands others s.carousel mid.carousel
    place after.carousel
    ∙ ap (λ (g : Geometry). place_after g.objects g.segment mid.carousel others
    (place_behind s commands place)) (sym after.geometry)

-- one command
pub behind_one : (layout : Layout) (s next : Standing) (command : Command) (done : Done)
    (place : Place) → after_command layout s command ≡ Ok (next, done)
    → place_behind s (command ∷ []) place
    ≡ changed (turn_of_carousel next.carousel next.geometry.segment) place
behind_one layout s next command done place e =
    let parts = accepted_parts layout s command done next e in
    ap (λ (r : Result (Carousel × Done) Refusal). option_map_or (λ c.
    changed (turn_of_carousel c s.geometry.segment) place) (carousel_if_accepted r) place)
    parts.rules
    ∙ ap (λ (g : Geometry). changed (turn_of_carousel next.carousel g.segment) place)
    (sym parts.geometry)

-- ---- a player that does not follow

begins_turn : (turn : Turn) (place : Place) → place.follows ≡ None
    → changed turn place ≡ change_turn turn place
unfolding changed
begins_turn turn place not = rw not refl

follows_not : (turn : Turn) (place : Place) → place.follows ≡ None
    → (change_turn turn place).follows ≡ None
unfolding change_turn
follows_not turn place not = not

only_last : (first turn : Turn) (place : Place)
    → change_turn turn (change_turn first place) ≡ change_turn turn place
unfolding change_turn
only_last first turn place = refl

abbrev anew : ℕ → List Command → Carousel → Place → Place
anew size [] last place = place
anew size (command ∷ commands) last place = change_turn (turn_of_carousel last size) place

anew-next : (limit size : ℕ) (commands : List Command) (next last : Carousel) (place : Place)
    → carousel_after next limit commands ≡ Some last
    → anew size commands last (change_turn (turn_of_carousel next size) place)
    ≡ change_turn (turn_of_carousel last size) place
unfolding carousel_after
anew-next limit size [] next last place e =
    ap (λ (c : Carousel). change_turn (turn_of_carousel c size) place) (same-carousel next last e)
anew-next limit size (command ∷ commands) next last place e =
    only_last (turn_of_carousel next size) (turn_of_carousel last size) place

anew-cases : (limit size : ℕ) (commands : List Command) (last : Carousel) (place : Place)
    (o : Option Carousel) → place.follows ≡ None
    → (o >>= λ next. carousel_after next limit commands) ≡ Some last
    → ((next : Carousel) (p : Place) → p.follows ≡ None
    → carousel_after next limit commands ≡ Some last
    → place_after limit size next commands p ≡ anew size commands last p)
    → option_map_or (λ next. place_after limit size next commands
    (changed (turn_of_carousel next size) place)) o place
    ≡ change_turn (turn_of_carousel last size) place
anew-cases limit size commands last place None not e rest = absurd (not_there last e)
anew-cases limit size commands last place (Some next) not e rest =
    let turn = turn_of_carousel next size in
    ap (place_after limit size next commands) (begins_turn turn place not)
    ∙ rest next (change_turn turn place) (follows_not turn place not) e
    ∙ anew-next limit size commands next last place e

anew-is : (limit size : ℕ) (commands : List Command) (c last : Carousel) (place : Place)
    → place.follows ≡ None → carousel_after c limit commands ≡ Some last
    → place_after limit size c commands place ≡ anew size commands last place
unfolding carousel_after
anew-is limit size [] c last place not e = refl
anew-is limit size (command ∷ commands) c last place not e =
    anew-cases limit size commands last place (carousel_if_accepted (change c limit command)) not e
    (λ next p still rest. anew-is limit size commands next last p still rest)

anew-there : (commands : List Command) (last : Standing) (g : Geometry) (place : Place)
    → last.geometry ≡ g
    → anew g.segment commands last.carousel place ≡ place_anew commands last place
anew-there [] last g place same = refl
anew-there (command ∷ commands) last g place same =
    ap (λ (h : Geometry). change_turn (turn_of_carousel last.carousel h.segment) place)
    (sym same)

-- only the last carousel's turn counts
pub begins_anew : TurnsBeginAnew
begins_anew s last commands place not after =
    anew-is s.geometry.objects s.geometry.segment commands s.carousel last.carousel place not
    after.carousel
    ∙ anew-there commands last s.geometry place after.geometry

-- ---- a server

-- the commands tell what comes of them, but for where the bodies lie
pub any_last : {D : Type 0} (server : ServerView D) (s : Standing) (commands : List Command)
    (mid last : Standing) (place : Place)
    → IsAfter s commands mid → IsAfter s commands last
    → place_in server mid ≡ place → place_in server last ≡ place
any_last server s commands mid last place one other here =
    ap (λ (c : Carousel). player.place_of server.player (bodies_of c))
    (same-carousel last.carousel mid.carousel (sym other.carousel ∙ one.carousel))
    ∙ here

-- nothing was done
pub none_done : {D : Type 0} (server : ServerView D) (commands : List Command) (marks : List Bool)
    → marks ≡ [] → (s last : Standing)
    → IsAfter s (accepted_commands commands marks) last
    → place_in server last ≡ place_behind s (accepted_commands commands marks) (place_in server s)
none_done server commands marks none s last after =
    subst (λ l. place_in server last
    ≡ place_behind s (accepted_commands commands l) (place_in server s)) (sym none)
    (any_last server s [] s last (place_in server s) (after_none s)
    (subst (λ l. IsAfter s (accepted_commands commands l) last) none after) refl)

-- a refused command leaves the player
pub stays_there : {D : Type 0} (mid now : ServerView D) (last : Standing) (place : Place)
    → now.player ≡ mid.player
    → place_in mid last ≡ place → place_in now last ≡ place
stays_there mid now last place same here =
    ap (λ (p : player.PlayerView). player.place_of p (bodies_of last.carousel)) same ∙ here

-- an accepted one brings its turn
pub turns_there : {D : Type 0} (mid now : ServerView D) (commands all : List Command)
    (command : Command) (done : Done) (s before next last : Standing)
    (place : Place) → all ≡ commands ++ command ∷ [] → IsAfter s commands before
    → after_command mid.view.journal.layout before command ≡ Ok (next, done)
    → place_in mid before ≡ place_behind s commands place
    → place_in now next ≡ changed (turn_of_carousel next.carousel next.geometry.segment)
    (place_in mid before)
    → IsAfter s all last → place_in now last ≡ place_behind s all place
turns_there mid now commands all command done s before next last place same after step so_far
    turns other =
    let layout = mid.view.journal.layout in
    any_last now s all next last (place_behind s all place)
    (subst (λ l. IsAfter s l next) (sym same)
    (after_one layout s commands before next command done after step)) other
    (turns
    ∙ sym (behind_one layout before next command done (place_in mid before) step)
    ∙ ap (place_behind before (command ∷ [])) so_far
    ∙ sym (behind_both s before commands (command ∷ []) place after)
    ∙ ap (λ l. place_behind s l place) (sym same))
