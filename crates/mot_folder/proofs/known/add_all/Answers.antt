use Rattle.std.proofs.Common.{◌≡◌, ◌⊎◌, ◌∙◌, false, inl, inr, subst, sym, ap}
use Rattle.std.specs.List.{AllByRecursion}
use Rattle.mot_folder.specs.Inner.Knowing.{IsAdded}
use Rattle.mot_folder.specs.Known.{Among}
use Rattle.mot_folder.specs.declared.known.Known.{Known}
use Rattle.mot_folder.proofs.Knowing.{all_on, all_push, among_at, each_among}
use Rattle.mot_folder.proofs.known.add_all.Goals as goal
use Rattle.mot_folder.proofs.known.add_all.Goals.{else-not-has, then-not-has}
use Rattle.mot_update.specs.Updating.{is_known}

pub loop-file-init : goal.loop-file-init
loop-file-init c = all_on (λ k at. inl at) c.args.known.now.items (each_among c.args.known.now.items)

pub loop-file-preserved : goal.loop-file-preserved
loop-file-preserved c =
    let P : Known → Type 0 = λ (k : Known). Among c.args.known.now.items k
    ⊎ IsAdded c.args.read.now c.args.refused.now.names.items c.args.carousel.now.objects.items k in
    let was = c.loop-file.known.items in
    let item = c.file-item.result in
    elim c.if-not-has.branch [
      | then-not-has w ↦
          let named : is_known c.args.refused.now.names.items item.name ≡ false =
          sym c.has.ensures ∙ w.if-not-has.true in
          subst (λ l. AllByRecursion P l) (ap (λ v. v.items) (sym w.known-is)) (elim w.add_one.ensures [
            | inl same ↦ subst (AllByRecursion P) (sym same) c.loop-file.invariant
            | inr one ↦ subst (AllByRecursion P) (sym one.4) (all_push P was one.0
                c.loop-file.invariant (inr (record {
                  file = item;
                  among = among_at c.args.read.now c.loop-file.file-index item
                      c.loop-file-test.true c.file-item.is;
                  name = one.1;
                  stamp = one.2;
                  fine = ap (is_known c.args.refused.now.names.items) one.1 ∙ named;
                  there = one.3;
                })))
          ])
      | else-not-has w ↦
          subst (λ l. AllByRecursion P l) (ap (λ v. v.items) (sym w.known-is)) c.loop-file.invariant
    ]
