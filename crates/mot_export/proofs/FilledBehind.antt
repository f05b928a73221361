-- What packets make of frames, by what they make of the last of them.
use Rattle.std.proofs.Common.{◌≡◌, ◌∙◌, ℕ, ◌+◌, List, [], ◌∷◌, Bool, true, false, ◌&&◌, refl, sym, ap, arith}
use Rattle.std.specs.Prelude.{if◌then◌else◌, nat_le, ◌-◌}
use Rattle.std.specs.List.{fold}
use Rattle.mot_export.specs.Filling.{with_packet}
use Rattle.mot_export.specs.declared.filling.Frames.{Frames}
use Rattle.mot_export.specs.Inner.Filled.{followed_by, frame_with}

abbrev frames : (begun left : ℕ) → Bool → Frames
frames begun left fits = record { begun = begun; left = left; fits = fits }

same : (a b left : ℕ) (p q : Bool) → a ≡ b → p ≡ q → frames a left p ≡ frames b left q
same a b left p q begun fits = ap (λ n. frames n left p) begun ∙ ap (frames b left) fits

and-true : (p : Bool) → p ≡ (p && true)
and-true true = refl
and-true false = refl

and-and : (p q r : Bool) → ((p && q) && r) ≡ (p && (q && r))
and-and true q r = refl
and-and false q r = refl

-- one packet
one : (size packet : ℕ) (f : Frames) (b : Bool)
    → (if b then record f { left = f.left - packet } else record {
      begun = f.begun + 1;
      left = size - packet;
      fits = f.fits && nat_le packet size;
    }) ≡ followed_by f (if b then record (frame_with f.left) { left = f.left - packet } else record {
      begun = 0 + 1;
      left = size - packet;
      fits = true && nat_le packet size;
    })
one size packet f true =
    same f.begun (f.begun + 0) (f.left - packet) f.fits (f.fits && true) (omega arith)
    (and-true f.fits)
one size packet f false = refl

followed-twice : (f g h : Frames)
    → followed_by (followed_by f g) h ≡ followed_by f (followed_by g h)
followed-twice f g h =
    same (f.begun + g.begun + h.begun) (f.begun + (g.begun + h.begun)) h.left
    ((f.fits && g.fits) && h.fits) (f.fits && (g.fits && h.fits)) (omega arith)
    (and-and f.fits g.fits h.fits)

-- all of them
pub filled-behind : (size : ℕ) (f : Frames) (packets : List ℕ)
    → fold (with_packet size) f packets
    ≡ followed_by f (fold (with_packet size) (frame_with f.left) packets)
filled-behind size f [] =
    same f.begun (f.begun + 0) f.left f.fits (f.fits && true) (omega arith) (and-true f.fits)
filled-behind size f (packet ∷ packets) =
    let first = with_packet size (frame_with f.left) packet in
    ap (λ g. fold (with_packet size) g packets) (one size packet f (nat_le packet f.left))
    ∙ filled-behind size (followed_by f first) packets
    ∙ followed-twice f first (fold (with_packet size) (frame_with first.left) packets)
    ∙ ap (followed_by f) (sym (filled-behind size first packets))
