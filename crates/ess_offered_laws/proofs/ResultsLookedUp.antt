-- Results of functions, images and parts are looked up, whatever term gives the function or the partition. A relation that is applied
-- isn't.
use Rattle.std.proofs.Common.{◌≡◌, refl, sym, ap, ◌∙◌, Bool, true, false, not, List, [], ◌∷◌, Option, Some, None, option_map, is_some}
use Rattle.ess_semantics.specs.declared.words.Fun.{Fun}
use Rattle.ess_semantics.specs.declared.words.ReprKind.{ReprKind}
use Rattle.ess_semantics.specs.Lists.{and_then, all_some, or_else}
use Rattle.ess_semantics.specs.Values.{Text, a_tuple, a_function, a_relation}
use Rattle.ess_semantics.specs.Names.{Names}
use Rattle.ess_semantics.specs.Trees.{word, application, function_literal, repr, more_reprs, no_reprs, Ex, Exs, node_ex, seen_ex, no_exs, more_exs, function_dom, tuple_dom, apply1}
use Rattle.ess_semantics.specs.Types.{Ty, any_ty, compound, compound2, no_tys, more_tys, join, joins, join_all}
use Rattle.ess_semantics.specs.OperatorTypes.{value_ty, function_ty, type_of_op}
use Rattle.ess_semantics.specs.Typing.{type_of, types_of}
use Rattle.ess_rules_laws.specs.Function1DViews.{function_1d_result}
use Rattle.ess_rules_laws.specs.Function1DPartialViews.{function_1d_partial_result}
use Rattle.ess_rules_laws.specs.FunctionNDViews.{function_nd_result}
use Rattle.ess_rules_laws.specs.FunctionNDPartialViews.{function_nd_partial_result}
use Rattle.ess_rules_laws.specs.FunctionLookups.{pairs_at}
use Rattle.ess_rules_laws.specs.AlternativeLookups.{pairs_by_cases, as_alternative}
use Rattle.ess_rules_laws.specs.Progress.{is_told}
use Rattle.ess_kind_rules_laws.specs.ViewListings.{dom_seen, names_for}
use Rattle.ess_kind_rules_laws.specs.TermLookups.{looked_up_alone}
use Rattle.ess_open_rules_laws.specs.OpenRules.{is_relation_ty}
use Rattle.ess_rules_laws.proofs.SourceTypes.{no}

-- ---- through options

-- The last of what is tried is there, so something is.
last-there : {A B : Type 0} (p : Option B) (f : A → B) (q r : Option A) → is_some r ≡ true →
    is_some (or_else p (option_map f (or_else q r))) ≡ true
last-there (Some z) f q r h = refl
last-there None f (Some z) r h = refl
last-there None f None (Some z) h = refl
last-there None f None None h = no h

-- Nothing of it is there.
or-none : {A : Type 0} (p q : Option A) → p ≡ None → q ≡ None → or_else p q ≡ None
or-none p q h k = ap (λ z. or_else z q) h ∙ k

all-none : {A B : Type 0} (p : Option B) (f : A → B) (q r : Option A) → p ≡ None → q ≡ None → r ≡ None →
    or_else p (option_map f (or_else q r)) ≡ None
all-none p f q r h k l = or-none p (option_map f (or_else q r)) h (ap (option_map f) (or-none q r k l))

-- No type comes of one operand.
pub one-none : (F : List Ty → Option Ty) → ((t : Ty) → is_some (F (t ∷ [])) ≡ true → false ≡ true) → (o : Option Ty) →
    is_some (and_then (all_some (o ∷ [])) F) ≡ true → false ≡ true
one-none F f None h = h
one-none F f (Some t) h = f t h

-- Nor of three or more.
pub three-none : (F : List Ty → Option Ty) → ((t u v : Ty) (ts : List Ty) → is_some (F (t ∷ u ∷ v ∷ ts)) ≡ true → false ≡ true) →
    (o p q : Option Ty) (os : List (Option Ty)) → is_some (and_then (all_some (o ∷ p ∷ q ∷ os)) F) ≡ true → false ≡ true
three-none F f None p q os h = h
three-none F f (Some t) None q os h = h
three-none F f (Some t) (Some u) None os h = h
three-none F f (Some t) (Some u) (Some v) os h = go (all_some os) h
  where
    go : (r : Option (List Ty)) →
        is_some (and_then (option_map (λ l. t ∷ l) (option_map (λ l. u ∷ l) (option_map (λ l. v ∷ l) r))) F) ≡ true → false ≡ true
    go None h = h
    go (Some ts) h = f t u v ts h

-- ---- applications

-- Whether there is a type of the application.
abbrev Applies : List (Option Ty) → Type 0
Applies os = is_some (and_then (all_some os) (type_of_op application)) ≡ true

-- What is applied to one argument is a function, of which there are pairs, or a relation.
one-argument : (x : Text) (f a : Ex) (o p : Option Ty) → Applies (o ∷ p ∷ []) → is_told o ≡ true →
    is_some (pairs_at o x f a) ≡ not (is_relation_ty o)
one-argument x f a None p t k = no k
one-argument x f a (Some z) None t k = no t
one-argument x f a (Some (compound2 a_function u v)) (Some w) t k = refl
one-argument x f a (Some (compound a_relation ts)) (Some w) t k = refl
one-argument x f a (Some any_ty) (Some w) t k = no k
one-argument x f a (Some _) (Some w) t k = no t

-- What is applied to none or to several is a relation.
no-argument : (o : Option Ty) → Applies (o ∷ []) → is_told o ≡ true → is_relation_ty o ≡ true
no-argument None t k = no k
no-argument (Some (compound a_relation ts)) t k = refl
no-argument (Some (compound2 a_function u v)) t k = no t
no-argument (Some any_ty) t k = no k
no-argument (Some _) t k = no t

several-arguments : (o p q : Option Ty) (os : List (Option Ty)) → Applies (o ∷ p ∷ q ∷ os) → is_told o ≡ true → is_relation_ty o ≡ true
several-arguments None p q os t k = no k
several-arguments (Some z) None q os t k = no t
several-arguments (Some z) (Some u) None os t k = no t
several-arguments (Some z) (Some u) (Some v) os t k = go z (all_some os) t k
  where
    go : (z : Ty) (r : Option (List Ty)) → is_some (and_then
        (option_map (λ l. z ∷ l) (option_map (λ l. u ∷ l) (option_map (λ l. v ∷ l) r))) (type_of_op application)) ≡ true →
        is_told (Some z) ≡ true → is_relation_ty (Some z) ≡ true
    go z None t k = no t
    go (compound a_relation ts) (Some r) t k = refl
    go (compound2 a_function a b) (Some r) t k = no t
    go any_ty (Some r) t k = no k
    go _ (Some r) t k = no t

-- ---- relations

module _ (g : Names Ty) where
  -- A function literal is no relation.
  literal-pairs : (o : Option Ty) → is_relation_ty (and_then o function_ty) ≡ true → false ≡ true
  literal-pairs None h = h
  literal-pairs (Some (compound2 a_tuple a b)) h = h
  literal-pairs (Some any_ty) h = h
  literal-pairs (Some _) h = h

  literal-type : (o : Option (List Ty)) → is_relation_ty (and_then o (type_of_op function_literal)) ≡ true → false ≡ true
  literal-type None h = h
  literal-type (Some ts) h = literal-pairs (join_all ts) h

  no-cases : (f a : Ex) → is_relation_ty (type_of f g) ≡ true → pairs_by_cases f a ≡ None
  no-cases (node_ex false function_literal ps) a h = no (literal-type (all_some (types_of ps g)) h)
  no-cases _ a h = refl

  -- Nor is a view of a function.
  no-1d : (x : Text) (f a : Ex) → is_relation_ty (type_of f g) ≡ true → function_1d_result x f a ≡ None
  no-1d x (seen_ex (repr ReprKind.Function1D (more_reprs r no_reprs)) (function_dom ms es d c) ns js) a h = no h
  no-1d x _ a h = refl

  no-1d_partial : (x : Text) (f a : Ex) → is_relation_ty (type_of f g) ≡ true → function_1d_partial_result x f a ≡ None
  no-1d_partial x (seen_ex (repr ReprKind.Function1DPartial (more_reprs r no_reprs)) (function_dom ms es d c) (m ∷ ns) js) a h = no h
  no-1d_partial x _ a h = refl

  no-nd : (xs : List Text) (f a : Ex) → is_relation_ty (type_of f g) ≡ true → function_nd_result xs f a ≡ None
  no-nd xs (seen_ex (repr ReprKind.FunctionND (more_reprs r no_reprs)) (function_dom ms es (tuple_dom ds) c) ns js) a h = no h
  no-nd xs _ a h = refl

  no-nd_partial : (xs : List Text) (f a : Ex) → is_relation_ty (type_of f g) ≡ true → function_nd_partial_result xs f a ≡ None
  no-nd_partial xs
      (seen_ex (repr ReprKind.FunctionNDPartial (more_reprs r no_reprs)) (function_dom ms es (tuple_dom ds) c) (m ∷ ns) js) a h =
      no h
  no-nd_partial xs _ a h = refl

  no-pairs : (x : Text) (f a : Ex) (o : Option Ty) → is_relation_ty o ≡ true → pairs_at o x f a ≡ None
  no-pairs x f a (Some (compound a_relation ts)) h = refl
  no-pairs x f a _ h = no h

-- ---- lookups

module _ (g : Names Ty) (x y : Text) (zs : List Text) where
  -- What the view of a function offers at an argument.
  abbrev ByView : Ex → Ex → Option Ex
  ByView f a =
      or_else (function_1d_result x f a) (or_else (function_1d_partial_result x f a)
      (or_else (function_nd_result (names_for zs (dom_seen f)) f a) (function_nd_partial_result (names_for zs (dom_seen f)) f a)))

  -- Where there are pairs an application is looked up, and so is an image.
  pairs-there : (b : Bool) (f a : Ex) → is_some (pairs_at (type_of f g) x f a) ≡ true →
      is_some (looked_up_alone g x y zs (apply1 b f a)) ≡ true
  pairs-there b f a h = last-there (pairs_by_cases f a) (as_alternative y) (ByView f a) (pairs_at (type_of f g) x f a) h

  image-there : (b : Bool) (f a : Ex) → is_some (pairs_at (type_of f g) x f a) ≡ true →
      is_some (looked_up_alone g x y zs (node_ex b (word Fun.Image) (more_exs f (more_exs a no_exs)))) ≡ true
  image-there b f a h = last-there (pairs_by_cases f a) (as_alternative y) (ByView f a) (pairs_at (type_of f g) x f a) h

  -- A relation that is applied isn't.
  relation-left : (b : Bool) (f a : Ex) → is_relation_ty (type_of f g) ≡ true → looked_up_alone g x y zs (apply1 b f a) ≡ None
  relation-left b f a h =
      let ys = names_for zs (dom_seen f) in
      all-none (pairs_by_cases f a) (as_alternative y) (ByView f a) (pairs_at (type_of f g) x f a) (no-cases g f a h)
      (or-none (function_1d_result x f a) _ (no-1d g x f a h)
      (or-none (function_1d_partial_result x f a) _ (no-1d_partial g x f a h)
      (or-none (function_nd_result ys f a) (function_nd_partial_result ys f a) (no-nd g ys f a h) (no-nd_partial g ys f a h))))
      (no-pairs g x f a (type_of f g) h)

  -- Each application is looked up but that of a relation.
  pub application-looked_up : (b : Bool) (f : Ex) (es : Exs) → Applies (types_of (more_exs f es) g) → is_told (type_of f g) ≡ true →
      is_some (looked_up_alone g x y zs (node_ex b application (more_exs f es))) ≡ not (is_relation_ty (type_of f g))
  application-looked_up b f no_exs t k = sym (ap not (no-argument (type_of f g) t k))
  application-looked_up b f (more_exs a no_exs) t k = go (is_relation_ty (type_of f g)) refl
    where
      go : (c : Bool) → is_relation_ty (type_of f g) ≡ c → is_some (looked_up_alone g x y zs (apply1 b f a)) ≡ not c
      go true q = ap is_some (relation-left b f a q)
      go false q = pairs-there b f a (one-argument x f a (type_of f g) (type_of a g) t k ∙ ap not q)
  application-looked_up b f (more_exs a (more_exs c cs)) t k =
      sym (ap not (several-arguments (type_of f g) (type_of a g) (type_of c g) (types_of cs g) t k))

-- Where a type of functions agrees with a type, that is one of functions or has no values.
image-pairs : (x : Text) (f a : Ex) (t u : Ty) → is_some (and_then (join t (compound2 a_function u any_ty)) value_ty) ≡ true →
    is_some (pairs_at (Some t) x f a) ≡ true
image-pairs x f a any_ty u h = refl
image-pairs x f a (compound a_function no_tys) u h = no h
image-pairs x f a (compound a_function (more_tys t no_tys)) u h = go (join t u) h
  where
    go : (o : Option Ty) → is_some (and_then (option_map (compound a_function)
        (and_then o (λ c. option_map (more_tys c) (joins no_tys (more_tys any_ty no_tys))))) value_ty) ≡ true → false ≡ true
    go None h = h
    go (Some c) h = h
image-pairs x f a (compound2 a_function t v) u h = refl
image-pairs x f a (compound a_function (more_tys t (more_tys v (more_tys w ts)))) u h = go (join t u) (join v any_ty) h
  where
    go : (o p : Option Ty) → is_some (and_then (option_map (compound a_function)
        (and_then o (λ c. option_map (more_tys c) (and_then p (λ e. option_map (more_tys e) (joins (more_tys w ts) no_tys)))))) value_ty)
        ≡ true →
        false ≡ true
    go None p h = h
    go (Some c) None h = h
    go (Some c) (Some e) h = h
image-pairs x f a _ u h = no h

module _ (g : Names Ty) (x y : Text) (zs : List Text) where
  -- Whether there is a type of the word on these.
  abbrev Says : Fun → List (Option Ty) → Type 0
  Says w os = is_some (and_then (all_some os) (type_of_op (word w))) ≡ true

  image-typed : (f a : Ex) (o p : Option Ty) → Says Fun.Image (o ∷ p ∷ []) → is_some (pairs_at o x f a) ≡ true
  image-typed f a None p t = no t
  image-typed f a (Some t) None h = no h
  image-typed f a (Some t) (Some u) h = image-pairs x f a t u h

  -- Each image is looked up, and each part.
  pub image-looked_up : (b : Bool) (es : Exs) → Says Fun.Image (types_of es g) →
      is_some (looked_up_alone g x y zs (node_ex b (word Fun.Image) es)) ≡ true
  image-looked_up b no_exs t = no t
  image-looked_up b (more_exs f no_exs) t = no (one-none (type_of_op (word Fun.Image)) (λ u h. h) (type_of f g) t)
  image-looked_up b (more_exs f (more_exs a no_exs)) t = image-there g x y zs b f a (image-typed f a (type_of f g) (type_of a g) t)
  image-looked_up b (more_exs f (more_exs a (more_exs c cs))) t =
      no (three-none (type_of_op (word Fun.Image)) (λ u v w ts h. h) (type_of f g) (type_of a g) (type_of c g) (types_of cs g) t)

  pub party-looked_up : (b : Bool) (es : Exs) → Says Fun.Party (types_of es g) →
      is_some (looked_up_alone g x y zs (node_ex b (word Fun.Party) es)) ≡ true
  party-looked_up b no_exs t = no t
  party-looked_up b (more_exs a no_exs) t = no (one-none (type_of_op (word Fun.Party)) (λ u h. h) (type_of a g) t)
  party-looked_up b (more_exs a (more_exs p no_exs)) t = refl
  party-looked_up b (more_exs a (more_exs p (more_exs c cs))) t =
      no (three-none (type_of_op (word Fun.Party)) (λ u v w ts h. h) (type_of a g) (type_of p g) (type_of c g) (types_of cs g) t)
