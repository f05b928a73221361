use Rattle.std.proofs.Common.{◌≡◌, ◌<◌, ◌∙◌, length, rules, subst, sym}
use Rattle.mot_commands.proofs.Read.{read_all, whole_again}
use Rattle.mot_commands.proofs.getting.read_whole.Goals as goal
use Rattle.mot_playout.proofs.Laws.{body_length}
use Rattle.mot_repository.specs.Repository.{object_body}

pub returns-clause-body : goal.returns-clause-body
returns-clause-body g c = λ s holds honest.
    let body = object_body s.carousel.objects c.args.place in
    let room = c.deref_mut.result.now in
    let items = c.in_ok-body.body.items in
    let long = body_length c.args.repository.now.view s holds.agrees
    c.body_count-bodies.ensures.paired c.args.place
    (subst (λ n. c.args.place < n) c.body_count-bodies.ensures.value c.if-prove.false) in
    let size = c.body_length-length.ensures.value in
    let len : c.in_ok-body.body.len ≡ c.body_length-length.result = search rules in
    let held : length items ≡ c.in_ok-body.body.len = search rules in
    let same : length room ≡ c.in_ok-body.body.len =
    subst (λ l. length l ≡ c.in_ok-body.body.len) (sym c.deref_mut.ensures.value) held in
    let read = read_all body c.read_body.new.out room (same ∙ len ∙ size ∙ sym long)
    (c.in_ok-read_body.ensures.bytes s holds honest) in
    whole_again c.read_body.new.out body items c.in_ok-body.body.len read (len ∙ size ∙ sym long)
