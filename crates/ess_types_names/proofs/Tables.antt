-- What a table has for a name, and how bound names come and go.
use Rattle.std.proofs.Common.{◌≡◌, refl, sym, ap, ◌∙◌, ℕ, Bool, true, false, cond, if◌then◌else◌, List, [], ◌∷◌, ◌++◌, map, reverse, take, drop, length, Option, Some, None, option_map, String, string_bytes}
use Rattle.std.proofs.lemmas.List.{map-append, reverse-append, append_assoc}
use Rattle.std.specs.List.{IsDistinct, find}
use Rattle.std.specs.Map.{lookup, keys_of}
use Rattle.std.specs.Str.{bytes_eq}
use Rattle.indexmap.specs.IndexMap.{insert_entry}
use Rattle.std.specs.String.{string_eq}
use Rattle.ess_semantics.specs.Values.{Text}
use Rattle.ess_semantics.specs.Names.{look}
use Rattle.ess_semantics.specs.Order.{same_text}
use Rattle.ess_core.specs.declared.types.Ty.{Ty}
use Rattle.ess_core.specs.declared.types.FieldTy.{FieldTy}
use Rattle.ess_core.specs.TypeViews.{pure_ty, pure_field_ty}
use Rattle.ess_core.proofs.TypeEquations.{pure_field_ty_is}
use Rattle.ess_types_names.specs.Maps.{entries_of}
use Rattle.ess_types_names.specs.Tables.{Types, pure_declared, pure_bound, pure_table, after_declared, unbound, Extends}
use Rattle.ess_types_names.specs.declared.table.Declared.{Declared}
use Rattle.ess_types_names.specs.declared.table.Declared.TheVariants.{Added, Standing}
use Rattle.ess_types_names.proofs.Maps.{first_of, look-append, reverse-cons, newest_pushed, entry_there, entry_none, entry_inserted}

-- ---- declared names

-- The type of a declared name is what the map has for its bytes.
pub declared_there : {A : Type 0} (es : List (String A × Ty)) (a : Text) (t u : Ty) → IsDistinct string_eq (keys_of es) → Some t ≡ lookup (λ k. bytes_eq a (string_bytes k)) es → u ≡ t
    → Some (pure_ty u) ≡ look (pure_declared (entries_of es)) a
declared_there = entry_there pure_ty

-- Without one it isn't declared.
pub declared_none : {A : Type 0} (es : List (String A × Ty)) (a : Text) → IsDistinct string_eq (keys_of es) → None ≡ lookup (λ k. bytes_eq a (string_bytes k)) es
    → None ≡ look (pure_declared (entries_of es)) a
declared_none = entry_none pure_ty

-- A name that isn't there is put behind the others.
pub inserted : {A : Type 0} (es fs : List (String A × Ty)) (k : String A) (a : Text) (t : Ty) → IsDistinct string_eq (keys_of es)
    → look (pure_declared (entries_of es)) a ≡ None → string_bytes k ≡ a → fs ≡ insert_entry string_eq es k t
    → entries_of fs ≡ entries_of es ++ (a, t) ∷ []
inserted = entry_inserted pure_ty

-- ---- bound names

bound-found : (fs : List FieldTy) (a : Text) → look (map pure_field_ty fs) a ≡ option_map (λ f. pure_ty f.ty) (find (λ f. same_text f.name a) fs)
bound-found [] a = refl
bound-found (f ∷ fs) a =
    ap (λ n. if same_text n.0 a then Some n.1 else look (map pure_field_ty fs) a) (pure_field_ty_is f)
    ∙ go (same_text f.name a) (bound-found fs a)
  where
    go : (b : Bool) → look (map pure_field_ty fs) a ≡ option_map (λ f. pure_ty f.ty) (find (λ f. same_text f.name a) fs)
        → (if b then Some (pure_ty f.ty) else look (map pure_field_ty fs) a) ≡ option_map (λ f. pure_ty f.ty) (cond b (Some f) (find (λ f. same_text f.name a) fs))
    go true h = refl
    go false h = h

map-reverse : {A B : Type 0} (f : A → B) (xs : List A) → reverse (map f xs) ≡ map f (reverse xs)
map-reverse f [] = refl
map-reverse f (x ∷ xs) =
    reverse-cons (f x) (map f xs) ∙ ap (λ l. l ++ f x ∷ []) (map-reverse f xs)
    ∙ sym (ap (map f) (reverse-cons x xs) ∙ map-append f (reverse xs) (x ∷ []))

-- The type of a bound name is that of the last one that has it.
bound-look : (fs : List FieldTy) (a : Text) → look (pure_bound fs) a ≡ option_map (λ f. pure_ty f.ty) (find (λ f. same_text f.name a) (reverse fs))
bound-look fs a = ap (λ l. look l a) (map-reverse pure_field_ty fs) ∙ bound-found (reverse fs) a

-- A bound name hides the declared ones.
pub bound_there : (fs : List FieldTy) (ds : List (Text × Ty)) (a : Text) (f : FieldTy) → Some f ≡ find (λ f. same_text f.name a) (reverse fs)
    → Some (pure_ty f.ty) ≡ look (pure_bound fs ++ pure_declared ds) a
bound_there fs ds a f e =
    sym (look-append (pure_bound fs) (pure_declared ds) a ∙ ap (λ o. first_of o (look (pure_declared ds) a)) (bound-look fs a ∙ ap (option_map (λ f. pure_ty f.ty)) (sym e)))

-- A name that isn't bound is a declared one.
pub bound_none : (fs : List FieldTy) (ds : List (Text × Ty)) (a : Text) → None ≡ find (λ f. same_text f.name a) (reverse fs)
    → look (pure_declared ds) a ≡ look (pure_bound fs ++ pure_declared ds) a
bound_none fs ds a e =
    sym (look-append (pure_bound fs) (pure_declared ds) a ∙ ap (λ o. first_of o (look (pure_declared ds) a)) (bound-look fs a ∙ ap (option_map (λ f. pure_ty f.ty)) (sym e)))

-- ---- bound names come and go

-- A table extends itself.
pub extends_itself : (t : Types) → Extends t t
extends_itself t = (refl, all t.bound)
  where
    all : (xs : List FieldTy) → take (length xs) xs ≡ xs
    all [] = refl
    all (x ∷ xs) = ap (λ l. x ∷ l) (all xs)

take_take : (m n : List FieldTy) (k : List FieldTy) → take (length k) m ≡ k → take (length m) n ≡ m → take (length k) n ≡ k
take_take m n [] p q = refl
take_take [] n (x ∷ k) p q = cc
take_take (y ∷ m) [] (x ∷ k) p q = cc
take_take (y ∷ m) (z ∷ n) (x ∷ k) p q = let e = take_take m n k (ap (drop 1) p) (ap (drop 1) q) in cc

-- What extends an extension extends the table.
pub extends_on : (t u v : Types) → Extends t u → Extends u v → Extends t v
extends_on t u v p q = (q.0 ∙ p.0, take_take u.bound v.bound t.bound p.1 q.1)

-- Letting go of the further names leads back.
pub unbound_back : (t u : Types) → Extends t u → unbound u (length t.bound) ≡ t
unbound_back t u p = λ j. record { declared = p.0 j; bound = p.1 j }

-- Further names stand in front.
pub appended : (ds : List (Text × Ty)) (xs ys zs : List FieldTy) → zs ≡ xs ++ ys
    → pure_bound zs ++ pure_declared ds ≡ reverse (map pure_field_ty ys) ++ (pure_bound xs ++ pure_declared ds)
appended ds xs ys zs e =
    ap (λ l. pure_bound l ++ pure_declared ds) e
    ∙ ap (λ l. reverse l ++ pure_declared ds) (map-append pure_field_ty xs ys)
    ∙ ap (λ l. l ++ pure_declared ds) (reverse-append (map pure_field_ty xs) (map pure_field_ty ys))
    ∙ append_assoc (reverse (map pure_field_ty ys)) (pure_bound xs) (pure_declared ds)

-- The first names stay.
pub appended_kept : (xs ys zs : List FieldTy) → zs ≡ xs ++ ys → take (length xs) zs ≡ xs
appended_kept xs ys zs e = ap (take (length xs)) e ∙ go xs
  where
    go : (xs : List FieldTy) → take (length xs) (xs ++ ys) ≡ xs
    go [] = refl
    go (x ∷ xs) = ap (λ l. x ∷ l) (go xs)

-- ---- declarations

-- A declaration that is new stands in front of the others.
pub declared_newest : (t u : Types) (a : Text) (s : Ty) (r : Declared) → u ≡ after_declared r t a s → r ≡ Added
    → pure_declared u.declared ≡ (a, pure_ty s) ∷ pure_declared t.declared
declared_newest t u a s r p q = ap (λ v. pure_declared v.declared) (p ∙ ap (λ r. after_declared r t a s) q) ∙ newest_pushed pure_ty t.declared a s

-- It leaves the bound names.
pub declared_behind : (t u : Types) (a : Text) (s : Ty) (r : Declared) → u ≡ after_declared r t a s → u.bound ≡ t.bound
declared_behind t u a s r p = ap (λ v. v.bound) p ∙ go r
  where
    go : (r : Declared) → (after_declared r t a s).bound ≡ t.bound
    go Added = refl
    go Standing = refl

-- Where no names are bound the table has the declared ones.
pub no_bound : (t : Types) → t.bound ≡ [] → pure_table t ≡ pure_declared t.declared
no_bound t h = ap (λ l. pure_bound l ++ pure_declared t.declared) h
