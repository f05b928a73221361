-- What a list shows, of the carousel with its bodies and of the carousel beside them.
use Rattle.std.proofs.Common.{◌≡◌, ℕ, List, [], ◌∷◌, ◌++◌, length, map}
use Rattle.std.proofs.Common.{refl, ap, ◌∙◌}
use Rattle.std.specs.List.{flat_map}
use Rattle.mot_lines.specs.Listing.{numbers_line, object_words, object_line, listing_text}
use Rattle.mot_lines.specs.Listing.{object_line_beside, listing_text_beside}
use Rattle.mot_objects.specs.declared.carousel.Carousel.{Carousel}
use Rattle.mot_objects.specs.declared.object.Object.{Object}
use Rattle.mot_objects.specs.Stands.{objects_of, carousel_of, AreBodiesOf}

-- of bodies of the lengths that the objects give
beside-counted : (objects : List Object) (bodies : List (List ℕ))
    → map length bodies ≡ map (λ (o : Object). o.length) objects
    → length objects ≡ length (objects_of objects bodies)
beside-counted [] bodies h = refl
beside-counted (o ∷ objects) [] h = absurd (cc)
beside-counted (o ∷ objects) (body ∷ bodies) h =
    let rest : map length bodies ≡ map (λ (x : Object). x.length) objects = cc in
    rw (beside-counted objects bodies rest) refl

beside-lines : (objects : List Object) (bodies : List (List ℕ))
    → map length bodies ≡ map (λ (o : Object). o.length) objects
    → flat_map object_line_beside objects ≡ flat_map object_line (objects_of objects bodies)
beside-lines [] bodies h = refl
beside-lines (o ∷ objects) [] h = absurd (cc)
beside-lines (o ∷ objects) (body ∷ bodies) h =
    let first : o.length ≡ length body = cc in
    let rest : map length bodies ≡ map (λ (x : Object). x.length) objects = cc in
    ap (λ n. object_words o.tid o.version o.content n o.name o.mime
    ++ flat_map object_line_beside objects) first
    ∙ ap (λ l. object_words o.tid o.version o.content (length body) o.name o.mime ++ l)
    (beside-lines objects bodies rest)

-- a list shows the same of a carousel with its bodies as without them
pub listing_text_beside-whole : (c : Carousel) (bodies : List (List ℕ)) → AreBodiesOf c bodies
    → listing_text_beside c ≡ listing_text (carousel_of c bodies)
listing_text_beside-whole c bodies b =
    ap (λ n. numbers_line c.period c.directory c.cursor n
    ++ flat_map object_line_beside c.objects.items)
    (beside-counted c.objects.items bodies b)
    ∙ ap (λ l. numbers_line c.period c.directory c.cursor
    (length (objects_of c.objects.items bodies)) ++ l)
    (beside-lines c.objects.items bodies b)
