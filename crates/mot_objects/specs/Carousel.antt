-- The carousel with its bodies, and what commands make of it (own rules).
use Rattle.std.specs.Prelude.{◌≡◌, ℕ, ◌+◌, ◌%◌, ◌≤◌, Bool, true, not, ◌&&◌, nat_le, if◌then◌else◌}
use Rattle.std.specs.Prelude.{List, [], ◌∷◌, ◌++◌, length, map, Option, Some, None, unwrap_or}
use Rattle.std.specs.Prelude.{option_map, option_to_list, Result, Ok, Err, bytes_eq, ⊤, ◌<◌, All}
use Rattle.std.specs.Prelude.{MatchOption, ◌==◌}
use Rattle.std.specs.List.{list_any, AllByRecursion}
use Rattle.mot_numbers.specs.Reading.{◌>>=◌}
use Rattle.mot_numbers.specs.declared.geometry.TheConstants.{MAX_OBJECTS}
use Rattle.mot_numbers.specs.declared.refusal.Refusal.{Refusal}
use Rattle.mot_numbers.specs.declared.refusal.Refusal.TheVariants.{NameTaken, NoSuchName}
use Rattle.mot_numbers.specs.declared.refusal.Refusal.TheVariants.{TooManyObjects}
use Rattle.mot_objects.specs.declared.command.Command.{Command}
use Rattle.mot_objects.specs.declared.command.Command.TheVariants.{Put, Replace, Withdraw, Period}
use Rattle.mot_objects.specs.declared.command.Done.{Done}
use Rattle.mot_objects.specs.Name.{ContentNumbers, IsMime, IsName}
use Rattle.mot_objects.specs.Ids.{is_distinct, next_free_id}
use Rattle.mot_objects.specs.declared.body.TheConstants.{MAX_BODY}
use Rattle.mot_objects.specs.declared.content.TheConstants.{MAX_TYPE, MAX_SUBTYPE}
use Rattle.mot_objects.specs.declared.period.TheConstants.{MAX_PERIOD}

pub record Object : Type 0 where
  pub name : List ℕ
  pub content : ContentNumbers
  pub mime : Option (List ℕ)
  pub version : ℕ
  pub tid : ℕ
  pub body : List ℕ

pub record Carousel : Type 0 where
  pub period : ℕ
  pub directory : ℕ
  pub cursor : ℕ
  pub objects : List Object

abbrev pub new_carousel : Carousel
new_carousel = record { period = 0; directory = 1; cursor = 1; objects = [] }

-- the transport ids of the directory and of the objects
abbrev pub used_ids : Carousel → List ℕ
used_ids c = c.directory ∷ map (λ (o : Object). o.tid) c.objects

-- the id that a put or a replace takes for its object
abbrev pub free_object_id : Carousel → ℕ
free_object_id c = next_free_id c.cursor (used_ids c)

abbrev pub has_name : List ℕ → Object → Bool
has_name name o = bytes_eq o.name name

-- the objects with the one of this name changed; nothing if there is none
abbrev pub objects_with : List ℕ → (Object → Object) → List Object → Option (List Object)
objects_with name f [] = None
objects_with name f (o ∷ objects) =
    if has_name name o then Some (f o ∷ objects)
    else option_map (λ rest. o ∷ rest) (objects_with name f objects)

-- the objects without the one of this name; nothing if there is none
abbrev pub objects_without : List ℕ → List Object → Option (List Object)
objects_without name [] = None
objects_without name (o ∷ objects) =
    if has_name name o then Some objects
    else option_map (λ rest. o ∷ rest) (objects_without name objects)

-- the id that the directory takes after the object's, if one was taken: all ids before the command
-- count as used
abbrev pub free_directory_id : Carousel → Option ℕ → ℕ
free_directory_id c taken =
    next_free_id (unwrap_or taken c.cursor) (used_ids c ++ option_to_list taken)

-- the carousel after an accepted command
abbrev pub change_to : Carousel → ℕ → List Object → Option ℕ → Carousel × Done
change_to c period objects taken =
    let directory = free_directory_id c taken in (
      record { period = period; directory = directory; cursor = directory; objects = objects },
      record { object = taken; directory = directory },
    )

abbrev pub change_if_named : Carousel → Option ℕ → Option (List Object) →
    Result (Carousel × Done) Refusal
change_if_named c taken None = Err NoSuchName
change_if_named c taken (Some objects) = Ok (change_to c c.period objects taken)

-- the object of a replace: its name stays, and its version counts the replaces modulo 256
abbrev pub renewed_object : ContentNumbers → Option (List ℕ) → List ℕ → ℕ → Object → Object
renewed_object content mime body id o = record {
  name = o.name;
  content = content;
  mime = mime;
  version = (o.version + 1) % 256;
  tid = id;
  body = body;
}

-- the object of a put
abbrev pub new_object : List ℕ → ContentNumbers → Option (List ℕ) → List ℕ → ℕ → Object
new_object name content mime body id = record {
  name = name;
  content = content;
  mime = mime;
  version = 0;
  tid = id;
  body = body;
}

-- the carousel after a command, or why it is refused; at most limit objects
unfoldable pub change : Carousel → ℕ → Command → Result (Carousel × Done) Refusal
change c limit (Put name content mime body) =
    let id = free_object_id c in let object = new_object name content mime body id in
    if list_any (has_name name) c.objects then Err NameTaken
    else (if nat_le limit (length c.objects) then Err TooManyObjects
    else Ok (change_to c c.period (c.objects ++ object ∷ []) (Some id)))
change c limit (Replace name content mime body) =
    let id = free_object_id c in
    change_if_named c (Some id) (objects_with name (renewed_object content mime body id) c.objects)
change c limit (Withdraw name) = change_if_named c None (objects_without name c.objects)
change c limit (Period period) = Ok (change_to c period c.objects None)

abbrev pub carousel_if_accepted : Result (Carousel × Done) Refusal → Option Carousel
carousel_if_accepted (Ok (c, done)) = Some c
carousel_if_accepted (Err refusal) = None

-- the carousel after the commands, if each is accepted where it stands
unfoldable pub carousel_after : Carousel → ℕ → List Command → Option Carousel
carousel_after c limit [] = Some c
carousel_after c limit (command ∷ commands) =
    carousel_if_accepted (change c limit command) >>= λ next. carousel_after next limit commands

abbrev pub are_names_distinct : List (List ℕ) → Bool
are_names_distinct [] = true
are_names_distinct (name ∷ names) = not (list_any (bytes_eq name) names) && are_names_distinct names

-- what every carousel keeps that commands make of the new one
pub record IsSound (c : Carousel) : Type 0 where
  pub names : are_names_distinct (map (λ (o : Object). o.name) c.objects) ≡ true
  pub ids : is_distinct (used_ids c) ≡ true
  pub range : AllByRecursion (λ id. (1 ≤ id) × (id ≤ 65535)) (used_ids c)
  pub cursor : (1 ≤ c.cursor) × (c.cursor ≤ 65535)
  pub few : length c.objects ≤ MAX_OBJECTS

-- The rules of the fields of objects, and of a carousel (own profile).

-- each field of an object keeps its rule
pub record KeepsRules (o : Object) : Type 0 where
  pub name : IsName o.name
  pub content : (o.content.content_type ≤ MAX_TYPE) × (o.content.subtype ≤ MAX_SUBTYPE)
  pub mime : MatchOption o.mime ⊤ IsMime
  pub size : (1 ≤ length o.body) × (length o.body ≤ MAX_BODY)
  pub bytes : All (λ b. b < 256) o.body

-- and so does the period
pub record AllKeepRules (c : Carousel) : Type 0 where
  pub objects : AllByRecursion KeepsRules c.objects
  pub period : c.period ≤ MAX_PERIOD

-- The commands that rebuild a carousel: a backup, and a way to a larger disk (own rule).

abbrev pub put_again : Object → Command
put_again o = Put o.name o.content o.mime o.body

-- a new carousel has the period 0
abbrev pub set_period_again : ℕ → List Command
set_period_again n = if n == 0 then [] else Period n ∷ []

-- a put for each object, in order, and the period
abbrev pub rebuilding : Carousel → List Command
rebuilding c = map put_again c.objects ++ set_period_again c.period
