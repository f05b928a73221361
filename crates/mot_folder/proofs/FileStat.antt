-- The names of a folder, one after the other.
use Rattle.std.proofs.Common.{◌≡◌, ◌∙◌, ℕ, Bool, true, false, List, [], ◌∷◌, ◌++◌, ap, refl, subst, sym}
use Rattle.std.proofs.Common.{◌&&◌, ◌+◌, ◌≢◌, ◌≤◌, append-nil, append_assoc, arith, cond, inl}
use Rattle.std.proofs.Common.{inr, length, length-append, not}
use Rattle.std.proofs.lemmas.Bool.{false_from_ne_true}
use Rattle.std.specs.List.{flat_map}
use Rattle.std.proofs.lemmas.Grind.{flat_map-append}
use Rattle.std.proofs.lemmas.List.Elements.{filter-append}
use Rattle.mot_folder.specs.Inner.Listing.{GivesAll, GivesNoMore, GivesSome, GoesOn, IsCallRefusal}
use Rattle.mot_folder.specs.Inner.Listing.{IsSoFar, IsUnread, IsWhyNot, StopsAt, WereAsked}
use Rattle.mot_folder.specs.Inner.Listing.GivesNoMore.{endless, stops}
use Rattle.mot_folder.specs.Inner.Listing.IsWhyNot.{failed, many, no_memory}
use Rattle.mot_folder.specs.Looked.{IsUnlisted}
use Rattle.mot_folder.specs.declared.listing.TheConstants.{MAX_NAMES}
use Rattle.mot_numbers.specs.declared.refusal.Refusal.{Refusal}
use Rattle.mot_numbers.specs.declared.refusal.Refusal.TheVariants.{TooManyObjects}
use Rattle.mot_folder.specs.Listed.{AreEither, IsListing, and_in_order, and_object, and_objects}
use Rattle.mot_folder.specs.Listed.{has_type}
use Rattle.mot_folder.specs.Listed.{names_in, with_type}
use Rattle.mot_folder.specs.Listed.AreEither.{no_name, one_first, one_other}
use Rattle.mot_objects.proofs.Laws.{name_is, name_true}
use Rattle.mot_objects.specs.Name.{IsName, is_name}
use Rattle.mot_objects.specs.declared.name.TheConstants.{MAX_NAME}
use Rattle.mot_shelf.specs.Given.{Given, and_asked, and_failed, and_listed, nothing}
use Rattle.mot_suffixes.specs.Types.{SuffixType}
use Rattle.mot_update.specs.Updating.{is_known}

-- one file more
objects-push : (names files : List (List ℕ)) (file : List ℕ)
    → and_objects names (files ++ file ∷ []) ≡ and_object (and_objects names files) file
objects-push names [] file = refl
objects-push names (other ∷ files) file = objects-push (and_object names other) files file

flipped : {A : Type 0} (k : Bool) (a b : A) → cond k a b ≡ cond (true && not k) b a
flipped true a b = refl
flipped false a b = refl

-- a name of an object is added, where it is none of them
pub object_added : (names after : List (List ℕ)) (n m : List ℕ) → m ≡ n → IsName n
    → after ≡ cond (is_known names m) names (and_in_order names m) → after ≡ and_object names n
object_added names after n m same named added =
    added ∙ ap (λ x. cond (is_known names x) names (and_in_order names x)) same
    ∙ flipped (is_known names n) names (and_in_order names n)
    ∙ ap (λ t. cond (t && not (is_known names n)) (and_in_order names n) names)
    (sym (name_true MAX_NAME n named named.short))

-- and another one is left out
pub object_left_out : (names : List (List ℕ)) (n : List ℕ) → (IsName n → ⊥)
    → names ≡ and_object names n
object_left_out names n none =
    ap (λ t. cond (t && not (is_known names n)) (and_in_order names n) names)
    (sym (false_from_ne_true (is_name MAX_NAME n)
    (λ is. none (name_is MAX_NAME n (omega arith) is))))

module _ (types : List SuffixType) (name : List ℕ) where
  one_typed : (t : Bool) → has_type types name ≡ t → with_type types (name ∷ []) ≡ cond t (name ∷ []) []
  one_typed t e = ap (λ b. cond b (name ∷ []) []) e

  more_typed : (seen : List (List ℕ)) (t : Bool) → has_type types name ≡ t
      → with_type types (seen ++ name ∷ []) ≡ with_type types seen ++ cond t (name ∷ []) []
  more_typed seen t e =
      filter-append (has_type types) seen (name ∷ [])
      ∙ ap (λ l. with_type types seen ++ l) (one_typed t e)

  one_counted : (seen : List (List ℕ)) (counted then_counted : ℕ) → has_type types name ≡ true
      → then_counted ≡ counted + 1 → counted ≡ length (with_type types seen)
      → then_counted ≡ length (with_type types (seen ++ name ∷ []))
  one_counted seen counted then_counted typed one was =
      let long = ap length (more_typed seen true typed)
      ∙ length-append (with_type types seen) (name ∷ []) in
      omega (arith, one, was, long)

  -- one too many
  pub too_many : (g h : Given) (counted : ℕ) (names : List (List ℕ)) (refusal : Refusal)
      → has_type types name ≡ true → refusal ≡ TooManyObjects → MAX_NAMES ≤ counted
      → StopsAt types (name ∷ []) g h counted names refusal
  too_many g h counted names refusal typed is full = λ seen was.
      let long = ap length (more_typed seen true typed)
      ∙ length-append (with_type types seen) (name ∷ []) in
      many is (omega (arith, full, was.count, long))

  -- a name without a suffix
  pub without_type : (g : Given) (counted : ℕ) (names : List (List ℕ))
      → has_type types name ≡ false
      → GoesOn types (name ∷ []) g g counted counted names names
  without_type g counted names none = λ seen was. record {
    count = was.count
        ∙ ap length (sym (more_typed seen false none ∙ append-nil (with_type types seen)));
    asked = subst (λ l. AreEither l g.files g.others)
        (sym (more_typed seen false none ∙ append-nil (with_type types seen))) was.asked;
    are = was.are;
  }

  -- one that is asked for, and is not that of a regular file
  pub of_other : (g h : Given) (counted then_counted : ℕ) (names : List (List ℕ))
      → has_type types name ≡ true → then_counted ≡ counted + 1
      → h ≡ and_asked g name false → GoesOn types (name ∷ []) g h counted then_counted names names
  of_other g h counted then_counted names typed one is = λ seen was.
      subst (λ (n : Given). IsSoFar types (seen ++ name ∷ []) n then_counted names) (sym is) (record {
        count = one_counted seen counted then_counted typed one was.count;
        asked = subst (λ l. AreEither l g.files (g.others ++ name ∷ []))
            (sym (more_typed seen true typed))
            (one_other (with_type types seen) g.files g.others name was.asked);
        are = was.are;
      })

  -- or is
  pub of_file : (g h : Given) (counted then_counted : ℕ) (names after : List (List ℕ))
      → has_type types name ≡ true → then_counted ≡ counted + 1
      → h ≡ and_asked g name true → after ≡ and_object names name
      → GoesOn types (name ∷ []) g h counted then_counted names after
  of_file g h counted then_counted names after typed one is added = λ seen was.
      subst (λ (n : Given). IsSoFar types (seen ++ name ∷ []) n then_counted after) (sym is) (record {
        count = one_counted seen counted then_counted typed one was.count;
        asked = subst (λ l. AreEither l (g.files ++ name ∷ []) g.others)
            (sym (more_typed seen true typed))
            (one_first (with_type types seen) g.files g.others name was.asked);
        are = added ∙ ap (λ l. and_object l name) was.are
            ∙ sym (objects-push [] g.files name);
      })

not_empty : (l : List (List ℕ)) (of : List ℕ) → l ++ of ∷ [] ≢ []
not_empty [] of e = cc
not_empty (x ∷ l) of e = cc

some_failed : (g h : Given) (of : List ℕ) → h ≡ and_failed g of → h.failed ≢ []
some_failed g h of is e =
    not_empty g.failed of (sym (ap (λ (n : Given). n.failed) is) ∙ e)

-- a call failed, of whatever names
pub call_failed : {types : List SuffixType} (seen : List (List ℕ)) (g h : Given) (of : List ℕ)
    (refusal : Refusal) → h ≡ and_failed g of → IsCallRefusal refusal
    → IsWhyNot types seen h refusal
call_failed seen g h of refusal is (inl fault) = failed fault (some_failed g h of is)
call_failed seen g h of refusal is (inr none) = no_memory none

pub asked_failed : (g h : Given) (of : List ℕ) → h ≡ and_failed g of → WereAsked g h
asked_failed g h of is =
    subst (λ (n : Given). WereAsked g n) (sym is)
    (record { listed = refl; unread = record { read = refl; missed = refl; unchanged = refl } })

pub unread_failed : (g h : Given) (of : List ℕ) → h ≡ and_failed g of → IsUnread g h
unread_failed g h of is =
    subst (λ (n : Given). IsUnread g n) (sym is) (record { read = refl; missed = refl; unchanged = refl })

pub asked_nothing : (g : Given) → WereAsked g g
asked_nothing g = record { listed = refl; unread = record { read = refl; missed = refl; unchanged = refl } }

pub asked_one : (g h : Given) (name : List ℕ) (b : Bool) → h ≡ and_asked g name b → WereAsked g h
asked_one g h name true is =
    subst (λ (n : Given). WereAsked g n) (sym is)
    (record { listed = refl; unread = record { read = refl; missed = refl; unchanged = refl } })
asked_one g h name false is =
    subst (λ (n : Given). WereAsked g n) (sym is)
    (record { listed = refl; unread = record { read = refl; missed = refl; unchanged = refl } })

pub unread_on : (g h k : Given) → IsUnread g h → IsUnread h k → IsUnread g k
unread_on g h k a b = record {
  read = b.read ∙ a.read;
  missed = b.missed ∙ a.missed;
  unchanged = b.unchanged ∙ a.unchanged;
}

pub unread_listed : (g h : Given) (bytes : List ℕ) → h ≡ and_listed g bytes → IsUnread g h
unread_listed g h bytes is =
    subst (λ (n : Given). IsUnread g n) (sym is) (record { read = refl; missed = refl; unchanged = refl })

module _ (types : List SuffixType) where
  -- no name
  pub goes_nowhere : (g : Given) (counted : ℕ) (names : List (List ℕ))
      → GoesOn types [] g g counted counted names names
  goes_nowhere g counted names = λ seen was.
      subst (λ l. IsSoFar types l g counted names) (sym (append-nil seen)) was

  -- and further names
  pub goes_on : (front last : List (List ℕ)) (g h k : Given) (a b c : ℕ)
      (names mid after : List (List ℕ))
      → GoesOn types front g h a b names mid → GoesOn types last h k b c mid after
      → GoesOn types (front ++ last) g k a c names after
  goes_on front last g h k a b c names mid after one two = λ seen was.
      subst (λ l. IsSoFar types l k c after) (append_assoc seen front last)
      (two (seen ++ front) (one seen was))

  goes_same : (g h : Given) (bytes : List ℕ) (counted : ℕ) (names : List (List ℕ))
      → h ≡ and_listed g bytes → GoesOn types [] g h counted counted names names
  goes_same g h bytes counted names is = λ seen was.
      subst (λ (n : Given). IsSoFar types (seen ++ []) n counted names) (sym is)
      (subst (λ l. IsSoFar types l (and_listed g bytes) counted names) (sym (append-nil seen))
      (record { count = was.count; asked = was.asked; are = was.are }))

  -- why fewer are not gone over is why more are not
  why_more : (seen more : List (List ℕ)) (g : Given) (refusal : Refusal)
      → IsWhyNot types seen g refusal → IsWhyNot types (seen ++ more) g refusal
  why_more seen more g refusal (failed is some) = failed is some
  why_more seen more g refusal (many is full) =
      let long = ap length (filter-append (has_type types) seen more)
      ∙ length-append (with_type types seen) (with_type types more) in
      many is (omega (arith, full, long))
  why_more seen more g refusal (no_memory is) = no_memory is

  -- further names were seen, and then no more
  pub stops_behind : (front last rest : List (List ℕ)) (g h k : Given) (a b : ℕ)
      (names mid : List (List ℕ)) (refusal : Refusal) → GoesOn types front g h a b names mid
      → StopsAt types last h k b mid refusal
      → StopsAt types (front ++ (last ++ rest)) g k a names refusal
  stops_behind front last rest g h k a b names mid refusal one two = λ seen was.
      subst (λ l. IsWhyNot types l k refusal)
      (append_assoc (seen ++ front) last rest ∙ append_assoc seen front (last ++ rest))
      (why_more ((seen ++ front) ++ last) rest k refusal (two (seen ++ front) (one seen was)))

  pub some_none : (g : Given) (counted : ℕ) (names : List (List ℕ))
      → GivesSome types g g counted counted names names
  some_none g counted names = record {
    pieces = [];
    so_far = sym (append-nil g.listed);
    goes = goes_nowhere g counted names;
  }

  pieces_more : (pieces : List (List ℕ)) (bytes : List ℕ)
      → flat_map names_in (pieces ++ bytes ∷ []) ≡ flat_map names_in pieces ++ names_in bytes
  pieces_more pieces bytes = flat_map-append names_in pieces (bytes ∷ [])
      ∙ ap (λ l. flat_map names_in pieces ++ l) (append-nil (names_in bytes))

  listed_more : (g h i k : Given) (a b : ℕ) (names mid : List (List ℕ)) (bytes : List ℕ)
      → (was : GivesSome types g h a b names mid) → i ≡ and_listed h bytes → WereAsked i k
      → k.listed ≡ g.listed ++ (was.pieces ++ bytes ∷ [])
  listed_more g h i k a b names mid bytes was is asked =
      asked.listed ∙ ap (λ (n : Given). n.listed) is ∙ ap (λ l. l ++ bytes ∷ []) was.so_far
      ∙ append_assoc g.listed was.pieces (bytes ∷ [])

  -- a further piece, all of whose names were gone over
  pub some_more : (g h i k : Given) (a b c : ℕ) (names mid after : List (List ℕ)) (bytes : List ℕ)
      → GivesSome types g h a b names mid → i ≡ and_listed h bytes
      → GoesOn types (names_in bytes) i k b c mid after → WereAsked i k
      → GivesSome types g k a c names after
  some_more g h i k a b c names mid after bytes was is on asked = record {
    pieces = was.pieces ++ bytes ∷ [];
    so_far = listed_more g h i k a b names mid bytes was is asked;
    goes = subst (λ l. GoesOn types l g k a c names after) (sym (pieces_more was.pieces bytes))
        (goes_on (flat_map names_in was.pieces) (names_in bytes) g h k a b c names mid after was.goes
        (goes_on [] (names_in bytes) h i k b b c mid mid after (goes_same h i bytes b mid is) on));
  }

  -- or not all of them
  pub no_more : (g h i k : Given) (a b : ℕ) (names mid : List (List ℕ)) (bytes : List ℕ)
      (refusal : Refusal) → GivesSome types g h a b names mid → i ≡ and_listed h bytes
      → StopsAt types (names_in bytes) i k b mid refusal → WereAsked i k
      → GivesNoMore types g k a names refusal
  no_more g h i k a b names mid bytes refusal was is on asked =
      stops (was.pieces ++ bytes ∷ []) (listed_more g h i k a b names mid bytes was is asked)
      (subst (λ l. StopsAt types l g k a names refusal)
      (ap (λ l. flat_map names_in was.pieces ++ l) (append-nil (names_in bytes))
      ∙ sym (pieces_more was.pieces bytes))
      (stops_behind (flat_map names_in was.pieces) (names_in bytes) [] g i k a b names mid refusal
      (subst (λ l. GoesOn types l g i a b names mid)
      (append-nil (flat_map names_in was.pieces))
      (goes_on (flat_map names_in was.pieces) [] g h i a b b names mid mid was.goes
      (goes_same h i bytes b mid is))) on))

  -- or no further piece was had
  pub no_piece : (g h k : Given) (a b : ℕ) (names mid : List (List ℕ)) (of : List ℕ)
      (refusal : Refusal) → GivesSome types g h a b names mid → k ≡ and_failed h of
      → IsCallRefusal refusal → GivesNoMore types g k a names refusal
  no_piece g h k a b names mid of refusal was is why =
      stops was.pieces (ap (λ (n : Given). n.listed) is ∙ was.so_far)
      (λ seen before. call_failed (seen ++ flat_map names_in was.pieces) h k of refusal is why)

  -- and there is no further one
  pub all_given : (g h i : Given) (a b : ℕ) (names mid : List (List ℕ)) (bytes : List ℕ)
      → GivesSome types g h a b names mid → i ≡ and_listed h bytes → bytes ≡ []
      → GivesAll types g i a b names mid
  all_given g h i a b names mid bytes was is none = record {
    pieces = was.pieces;
    whole = ap (λ (n : Given). n.listed) is ∙ ap (λ l. l ++ bytes ∷ []) was.so_far
        ∙ append_assoc g.listed was.pieces (bytes ∷ [])
        ∙ ap (λ b. g.listed ++ (was.pieces ++ b ∷ [])) none;
    goes = subst (λ l. GoesOn types l g i a b names mid) (append-nil (flat_map names_in was.pieces))
        (goes_on (flat_map names_in was.pieces) [] g h i a b b names mid mid was.goes
        (goes_same h i bytes b mid is));
  }

  opened_first : (path : List ℕ) (g h : Given) → g ≡ nothing → h ≡ and_listed g path
      → h ≡ and_listed nothing path
  opened_first path g h none is = is ∙ ap (λ (n : Given). and_listed n path) none

  begun : (path : List ℕ) (h : Given) (counted : ℕ) → h ≡ and_listed nothing path → counted ≡ 0
      → IsSoFar types [] h counted []
  begun path h counted opened zero =
      subst (λ (n : Given). IsSoFar types [] n counted []) (sym opened)
      (record { count = zero; asked = no_name; are = refl })

  -- a folder that was opened gave all its names
  pub is_listing : (path : List ℕ) (g h k : Given) (a b : ℕ) (names : List (List ℕ)) → g ≡ nothing
      → h ≡ and_listed g path → a ≡ 0 → GivesAll types h k a b [] names
      → IsListing types path k names
  is_listing path g h k a b names none is zero all =
      let opened = opened_first path g h none is in
      let last = all.goes [] (begun path h a opened zero) in
      record {
        pieces = all.pieces;
        whole = all.whole
            ∙ ap (λ (n : Given). n.listed ++ (all.pieces ++ [] ∷ [])) opened;
        asked = last.asked;
        are = last.are;
      }

  -- or it gave not all of them
  pub is_unlisted : (path : List ℕ) (g h k : Given) (a : ℕ) (refusal : Refusal) → g ≡ nothing
      → h ≡ and_listed g path → a ≡ 0 → GivesNoMore types h k a [] refusal
      → IsUnlisted types path k refusal
  is_unlisted path g h k a refusal none is zero (stops pieces so_far why) =
      let opened = opened_first path g h none is in
      why_unlisted path k pieces refusal
      (so_far ∙ ap (λ (n : Given). n.listed ++ pieces) opened)
      (why [] (begun path h a opened zero))
    where
      why_unlisted : (path : List ℕ) (k : Given) (pieces : List (List ℕ)) (refusal : Refusal)
          → k.listed ≡ path ∷ pieces → IsWhyNot types (flat_map names_in pieces) k refusal
          → IsUnlisted types path k refusal
      why_unlisted path k pieces refusal all (failed is some) = IsUnlisted.failed is some
      why_unlisted path k pieces refusal all (many is full) = IsUnlisted.many is pieces all full
      why_unlisted path k pieces refusal all (no_memory is) = IsUnlisted.no_memory is
  is_unlisted path g h k a refusal none is zero (endless same long) = IsUnlisted.endless same long

  -- or was not opened
  pub is_unopened : (path of : List ℕ) (g k : Given) (refusal : Refusal) → k ≡ and_failed g of
      → IsCallRefusal refusal → IsUnlisted types path k refusal
  is_unopened path of g k refusal is (inl fault) = IsUnlisted.failed fault (some_failed g k of is)
  is_unopened path of g k refusal is (inr none) = IsUnlisted.no_memory none
