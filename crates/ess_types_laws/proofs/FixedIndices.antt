-- Names that generators bind, and operands of an index that are left once it is resolved: a field that stands as an index is no name.
use Rattle.std.proofs.Common.{◌≡◌, refl, sym, ap, ◌∙◌, Bool, true, false, ◌||◌, not, List, [], ◌∷◌, Option, Some, None, subst, ◌&&◌}
use Rattle.std.specs.Prelude.{ℕ, is_some, if◌then◌else◌}
use Rattle.std.proofs.lemmas.List.Folds.{list_any-append}
use Rattle.ess_semantics.specs.Lists.{and_then, is_some_and}
use Rattle.ess_semantics.specs.Values.{Text, a_record}
use Rattle.ess_semantics.specs.Order.{same_text}
use Rattle.ess_semantics.specs.Names.{Names, is_among}
use Rattle.ess_semantics.specs.Trees.{Step, by_value, to_component, to_field, index, Pat, Pats, name_pat, tuple_pat, no_pats, more_pats, Ex, Exs, more_exs, no_exs}
use Rattle.ess_semantics.specs.Types.{Ty, Tys, compound, pattern_names, all_pattern_names}
use Rattle.ess_semantics.specs.Typing.{Static, a_number, a_name, other, static, statics, step_ty, type_behind, part_behind, path_ty, type_of_node, type_of, types_of}
use Rattle.ess_semantics.specs.Lettings.{is_record, field_steps}
use Rattle.ess_semantics.specs.Scopes.{names_but, Scope, Asked, nothing_asked, every, every_operand, depends_on_no_find}
use Rattle.ess_semantics.specs.Scoped.{is_bound, is_bound_by_some, with_names}
use Rattle.ess_semantics.specs.Resolving.{step_at, steps_from, kept_indices, resolve, resolve_exs}
use Rattle.ess_semantics.proofs.Tests.{or-yes, and-left, and-right}
use Rattle.ess_semantics.proofs.Texts.{same_text-equal}
use Rattle.ess_semantics.specs.FreeNames.{FreeNamesAre, FreeNamesAreExs}
use Rattle.ess_types_laws.proofs.ResolvedSteps.{kept-none}

-- ---- names that a pattern binds

or-none : (b : Bool) → b || false ≡ b
or-none true = refl
or-none false = refl

mutual
  bound-among : (p : Pat) (a : Text) → is_bound p a ≡ is_among (pattern_names p) a
  bound-among (name_pat b) a = sym (or-none (same_text b a))
  bound-among (tuple_pat ps) a = some-among ps a

  some-among : (ps : Pats) (a : Text) → is_bound_by_some ps a ≡ is_among (all_pattern_names ps) a
  some-among no_pats a = refl
  some-among (more_pats p ps) a =
      ap (λ b. b || is_bound_by_some ps a) (bound-among p a) ∙ ap (λ b. is_among (pattern_names p) a || b) (some-among ps a)
      ∙ sym (list_any-append (λ n. same_text n a) (pattern_names p) (all_pattern_names ps))

-- A name that isn't among these stays among the names but these, one name at a time.
one-still : (bs ns : List Text) (n a : Text) (b c : Bool) → is_among bs n ≡ b → same_text n a ≡ c → is_among bs a ≡ false →
    is_among (names_but bs ns) a ≡ is_among ns a →
    is_among (if not b then n ∷ names_but bs ns else names_but bs ns) a ≡ (c || is_among ns a)
one-still bs ns n a false c q r f h = ap (λ d. d || is_among (names_but bs ns) a) r ∙ ap (λ d. c || d) h
one-still bs ns n a true false q r f h = h
one-still bs ns n a true true q r f h = let e : is_among bs a ≡ true = sym (ap (is_among bs) (same_text-equal n a r)) ∙ q in cc

-- The same of all names.
still-among : (bs ns : List Text) (a : Text) → is_among bs a ≡ false → is_among (names_but bs ns) a ≡ is_among ns a
still-among bs [] a f = refl
still-among bs (n ∷ ns) a f =
    one-still bs ns n a (is_among bs n) (same_text n a) refl refl f (still-among bs ns a f)

-- What holds of each name that isn't among these.
abbrev pub HoldsBut : List Text → (Text → Bool) → Type 0
HoldsBut ns u = (a : Text) → is_among ns a ≡ false → u a ≡ true

one-bound : (p : Pat) (ns : List Text) (u : Text → Bool) (a : Text) (b : Bool) → is_among (pattern_names p) a ≡ b → HoldsBut ns u →
    is_among (names_but (pattern_names p) ns) a ≡ false → (u a || b) ≡ true
one-bound p ns u a true q h f = or-yes (u a)
one-bound p ns u a false q h f = ap (λ c. c || false) (h a (sym (still-among (pattern_names p) ns a q) ∙ f))

-- Behind a pattern it holds of each name that isn't among the others, or that the pattern binds.
pub bound-holds : (p : Pat) (ns : List Text) (u : Text → Bool) → HoldsBut ns u → HoldsBut (names_but (pattern_names p) ns) (with_names u p)
bound-holds p ns u h a f = ap (λ b. u a || b) (bound-among p a) ∙ one-bound p ns u a (is_among (pattern_names p) a) refl h f

-- ---- indices

-- The type that steps lead to from a place of this type is there.
abbrev pub Leads : Names Ty → Option Ty → List Step → Exs → Type 0
Leads g t qs es = is_some (and_then t (λ p. path_ty p qs (statics es) (types_of es g))) ≡ true

pub node-leads : (o : Option Ty) (qs : List Step) (s : Static) (ss : List Static) (us : List (Option Ty)) →
    is_some (type_of_node (index qs) (s ∷ ss) (o ∷ us)) ≡ true → is_some (and_then o (λ p. path_ty p qs ss us)) ≡ true
node-leads None qs s ss us h = h
node-leads (Some t) qs s ss us h = h

pub value-leads : (g : Names Ty) (t : Option Ty) (qs : List Step) (e : Ex) (es : Exs) → Leads g t (by_value ∷ qs) (more_exs e es) →
    Leads g (type_behind t (static e) (type_of e g)) qs es
value-leads g None qs e es h = h
value-leads g (Some t) qs e es h = h

pub component-leads : (g : Names Ty) (t : Option Ty) (k : ℕ) (qs : List Step) (es : Exs) → Leads g t (to_component k ∷ qs) es →
    Leads g (part_behind t (a_number k)) qs es
component-leads g None k qs es h = h
component-leads g (Some t) k qs es h = h

pub field-leads : (g : Names Ty) (t : Option Ty) (a : Text) (qs : List Step) (es : Exs) → Leads g t (to_field a ∷ qs) es →
    Leads g (part_behind t (a_name a)) qs es
field-leads g None a qs es h = h
field-leads g (Some t) a qs es h = h

-- A step that leads somewhere and is by a value is none into a record.
record-value : (fs : List Text) (ts : Tys) (s : Static) (u : Option Ty) → step_at (Some (compound (a_record fs) ts)) s ≡ by_value →
    is_some (step_ty (compound (a_record fs) ts) s u) ≡ true → true ≡ false
record-value fs ts (a_name a) u q h = cc
record-value fs ts (a_number k) None q h = cc
record-value fs ts (a_number k) (Some v) q h = cc
record-value fs ts other None q h = cc
record-value fs ts other (Some v) q h = cc

no-record : (t : Ty) (s : Static) (u : Option Ty) → step_at (Some t) s ≡ by_value → is_some (step_ty t s u) ≡ true → is_record t ≡ false
no-record (compound (a_record fs) ts) s u q h = record-value fs ts s u q h
no-record _ s u q h = refl

pub some-there : (o : Option Ty) (f : Ty → Option Ty) → is_some (and_then o f) ≡ true → is_some o ≡ true
some-there None f h = h
some-there (Some t) f h = refl

pub value-flag : (t : Option Ty) (s : Static) (u : Option Ty) → step_at t s ≡ by_value → is_some (type_behind t s u) ≡ true →
    is_some_and t is_record ≡ false
value-flag None s u q h = refl
value-flag (Some t) s u q h = no-record t s u q h

-- ---- what is asked of operands

-- What is asked where no name may depend on a find.
abbrev pub fixed_parts : Asked
fixed_parts = record nothing_asked { of_ex = depends_on_no_find }

-- The scope with these names as those that depend on finds.
abbrev pub depending : List Text → Scope → Scope
depending ns s = record s { depends_on_finds = ns }

-- What is asked of the operands behind the first, which may be a field.
tail-asked : (q : Asked) (b : Bool) (bs : List Bool) (e : Ex) (es : Exs) (s : Scope) → every_operand q (b ∷ bs) (more_exs e es) s ≡ true →
    every_operand q bs es s ≡ true
tail-asked q true bs e es s h = h
tail-asked q false bs e es s h = and-right (every q e s) (every_operand q bs es s) h

head-asked : (q : Asked) (b : Bool) (bs : List Bool) (e : Ex) (es : Exs) (s : Scope) → b ≡ false →
    every_operand q (b ∷ bs) (more_exs e es) s ≡ true → every q e s ≡ true
head-asked q true bs e es s f h = cc
head-asked q false bs e es s f h = and-left (every q e s) (every_operand q bs es s) h

-- One step more: what stands at it is left where it is by a value, and then it is no field.
step-free : (u : Text → Bool) (g : Names Ty) (t : Option Ty) (qs rs : List Step) (e : Ex) (es : Exs) →
    is_some (type_behind t (static e) (type_of e g)) ≡ true → (is_some_and t is_record ≡ false → FreeNamesAre u (resolve e g)) →
    (r : Step) → step_at t (static e) ≡ r → FreeNamesAreExs u (kept_indices qs rs es) →
    FreeNamesAreExs u (kept_indices (by_value ∷ qs) (r ∷ rs) (more_exs (resolve e g) es))
step-free u g t qs rs e es i k by_value r w = (k (value-flag t (static e) (type_of e g) r i), w)
step-free u g t qs rs e es i k (to_component n) r w = w
step-free u g t qs rs e es i k (to_field x) r w = w

-- What follows of three tests, from what follows of the last two.
pub two-of-three : (b c d x y : Bool) (A B : Type 0) → (c ≡ true → x ≡ true → A) → (d ≡ true → y ≡ true → B) →
    b && c && d ≡ true → x && y ≡ true → A × B
two-of-three b c d x y A B h k a f =
    (h (and-right b c (and-left (b && c) d a)) (and-left x y f), k (and-right (b && c) d a) (and-right x y f))

-- Each operand of which both are asked has, resolved, free names that are so.
abbrev pub EachFree : Asked → Scope → List Text → List Text → (Text → Bool) → Exs → Type 0
EachFree q s ms ns u no_exs = Unit {0}
EachFree q s ms ns u (more_exs e es) =
    (every q e (depending ms s) ≡ true → every fixed_parts e (depending ns s) ≡ true →
    FreeNamesAre u (resolve e s.tys)) × EachFree q s ms ns u es

module _ (q : Asked) (s : Scope) (ms ns : List Text) (u : Text → Bool) where
  pub all-free : (es : Exs) → EachFree q s ms ns u es → every_operand q [] es (depending ms s) ≡ true →
      every_operand fixed_parts [] es (depending ns s) ≡ true → FreeNamesAreExs u (resolve_exs es s.tys)
  all-free no_exs k a f = tt
  all-free (more_exs e es) k a f = (
    k.0 (and-left (every q e (depending ms s)) (every_operand q [] es (depending ms s)) a)
        (and-left (every fixed_parts e (depending ns s)) (every_operand fixed_parts [] es (depending ns s)) f),
    all-free es k.1 (and-right (every q e (depending ms s)) (every_operand q [] es (depending ms s)) a)
        (and-right (every fixed_parts e (depending ns s)) (every_operand fixed_parts [] es (depending ns s)) f),
  )

  -- The operands that are left of steps which lead somewhere have such free names.
  pub steps-free : (t : Option Ty) (qs : List Step) (es : Exs) → Leads s.tys t qs es → EachFree q s ms ns u es →
      every_operand q (field_steps t qs (statics es) (types_of es s.tys)) es (depending ms s) ≡ true →
      every_operand fixed_parts (field_steps t qs (statics es) (types_of es s.tys)) es (depending ns s) ≡ true →
      FreeNamesAreExs u (kept_indices qs (steps_from t qs (statics es) (types_of es s.tys)) (resolve_exs es s.tys))
  steps-free t [] es i k a f = all-free es k a f
  steps-free t (by_value ∷ qs) no_exs i k a f = subst (FreeNamesAreExs u) (sym (kept-none qs qs)) tt
  steps-free t (by_value ∷ qs) (more_exs e es) i k a f =
      let v : Option Ty = type_behind t (static e) (type_of e s.tys) in
      let bs : List Bool = field_steps v qs (statics es) (types_of es s.tys) in
      step-free u s.tys t qs (steps_from v qs (statics es) (types_of es s.tys)) e (resolve_exs es s.tys)
      (some-there v (λ p. path_ty p qs (statics es) (types_of es s.tys)) (value-leads s.tys t qs e es i))
      (λ n. k.0 (head-asked q (is_some_and t is_record) bs e es (depending ms s) n a)
      (head-asked fixed_parts (is_some_and t is_record) bs e es (depending ns s) n f))
      (step_at t (static e)) refl
      (steps-free v qs es (value-leads s.tys t qs e es i) k.1
      (tail-asked q (is_some_and t is_record) bs e es (depending ms s) a)
      (tail-asked fixed_parts (is_some_and t is_record) bs e es (depending ns s) f))
  steps-free t (to_component n ∷ qs) es i k a f =
      steps-free (part_behind t (a_number n)) qs es (component-leads s.tys t n qs es i) k a f
  steps-free t (to_field x ∷ qs) es i k a f =
      steps-free (part_behind t (a_name x)) qs es (field-leads s.tys t x qs es i) k a f
