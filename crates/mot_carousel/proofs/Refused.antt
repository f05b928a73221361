-- Which refusals the rules have.
use Rattle.std.proofs.Common.{◌≡◌, ℕ, Bool, true, false, List, Option, Some, None, Ok, Err, subst}
use Rattle.std.specs.Prelude.{if◌then◌else◌}
use Rattle.mot_numbers.specs.declared.refusal.Refusal.{Refusal}
use Rattle.mot_numbers.specs.declared.refusal.Refusal.TheVariants.{NameTaken, NoSuchName}
use Rattle.mot_numbers.specs.declared.refusal.Refusal.TheVariants.{TooManyObjects}
use Rattle.mot_objects.specs.declared.command.Command.{Command}
use Rattle.mot_objects.specs.declared.command.Command.TheVariants.{Put, Replace, Withdraw, Period}
use Rattle.mot_objects.specs.declared.command.Done.{Done}
use Rattle.mot_objects.specs.Carousel.{Object, Carousel, change, change_if_named, free_object_id}

put-refused : (P : Refusal → Type 0) → P NameTaken → P TooManyObjects → (taken full : Bool)
    (x : Carousel × Done) (refusal : Refusal)
    → (if taken then Err NameTaken else (if full then Err TooManyObjects else Ok x)) ≡ Err refusal
    → P refusal
put-refused P taken many true full x refusal e =
    let same : NameTaken ≡ refusal = cc in subst P same taken
put-refused P taken many false true x refusal e =
    let same : TooManyObjects ≡ refusal = cc in subst P same many
put-refused P taken many false false x refusal e = cc

named-refused : (P : Refusal → Type 0) → P NoSuchName → (c : Carousel) (taken : Option ℕ)
    (objects : Option (List Object)) (refusal : Refusal)
    → change_if_named c taken objects ≡ Err refusal → P refusal
named-refused P none c taken None refusal e =
    let same : NoSuchName ≡ refusal = cc in subst P same none
named-refused P none c taken (Some objects) refusal e = cc

-- what is so of these three is so of each refusal of the rules
pub refused_by_rules : (P : Refusal → Type 0) → P NameTaken → P NoSuchName → P TooManyObjects
    → (c : Carousel) (limit : ℕ) (command : Command) (refusal : Refusal)
    → change c limit command ≡ Err refusal → P refusal
unfolding change
refused_by_rules P taken none many c limit (Put name content mime body) refusal e =
    put-refused P taken many _ _ _ refusal e
refused_by_rules P taken none many c limit (Replace name content mime body) refusal e =
    named-refused P none c (Some (free_object_id c)) _ refusal e
refused_by_rules P taken none many c limit (Withdraw name) refusal e =
    named-refused P none c None _ refusal e
refused_by_rules P taken none many c limit (Period period) refusal e = cc
