-- Names that generators bind are in scope behind them, and operands of an index that are left once it is resolved are no fields.
use Rattle.std.proofs.Common.{◌≡◌, refl, sym, ap, ◌∙◌, Bool, true, false, ◌||◌, List, [], ◌∷◌, ◌++◌, Option, None, subst}
use Rattle.std.specs.Prelude.{is_some}
use Rattle.ess_semantics.specs.Lists.{is_some_and}
use Rattle.ess_semantics.specs.Values.{Text}
use Rattle.ess_semantics.specs.Names.{Names, keys, is_among}
use Rattle.ess_semantics.specs.Trees.{Step, by_value, to_component, to_field, Pat, Pats, name_pat, tuple_pat, no_pats, more_pats, Ex, Exs, more_exs, no_exs}
use Rattle.ess_semantics.specs.Types.{Ty, Tys, any_ty, no_tys, more_tys, parts_of_ty, bind_types, bind_all_types}
use Rattle.ess_semantics.specs.Typing.{a_number, a_name, static, statics, type_behind, part_behind, path_ty, type_of, types_of}
use Rattle.ess_semantics.specs.Lettings.{is_record, field_steps}
use Rattle.ess_semantics.specs.Scopes.{Scope, names_in_scope, Asked, nothing_asked, every, every_operand}
use Rattle.ess_semantics.specs.Scoped.{is_bound, is_bound_by_some, with_names}
use Rattle.ess_semantics.specs.Judgements.{name_is_known, domain_is_known}
use Rattle.ess_semantics.specs.Resolving.{step_at, steps_from, kept_indices, resolve, resolve_exs}
use Rattle.ess_semantics.proofs.Tests.{and-left, and-right, or-yes}
use Rattle.ess_types_laws.proofs.ResolvedSteps.{kept-none}
use Rattle.ess_types_laws.proofs.FixedIndices.{Leads, value-leads, component-leads, field-leads, some-there, value-flag, depending}
use Rattle.conjure_laws.proofs.FreeNames.{among-append}
use Rattle.conjure_settled_laws.proofs.UsedNames.{UsesAre, UsesAreExs}

-- What is asked where names are known.
abbrev pub known_parts : Asked
known_parts = record nothing_asked { of_ex = name_is_known; of_dom = domain_is_known }

-- The names in scope have the property u, and those of types and domains the property v.
pub record Covers (v : Text → Bool) (s : Scope) (u : Text → Bool) : Type 0 where
  pub names : (a : Text) → is_among (names_in_scope s) a ≡ true → u a ≡ true
  pub types : (a : Text) → is_among (s.enums ++ s.unnamed ++ keys s.lets.doms) a ≡ true → v a ≡ true

-- ---- names that a pattern binds

either-way : (a b c : Bool) → a || (b || c) ≡ true → b || (a || c) ≡ true
either-way true b c h = or-yes b
either-way false true c h = refl
either-way false false c h = h

joined : (b c d x : Bool) → (d ≡ true → (b || x) ≡ true) → (c || d) ≡ true → ((b || c) || x) ≡ true
joined true c d x f h = refl
joined false true d x f h = refl
joined false false d x f h = f h

mutual
  bound-key : (p : Pat) (t : Ty) (g : Names Ty) (a : Text) → is_among (keys (bind_types p t g)) a ≡ true →
      (is_bound p a || is_among (keys g) a) ≡ true
  bound-key (name_pat b) t g a h = h
  bound-key (tuple_pat ps) t g a h = some-key ps (parts_of_ty t) g a h

  some-key : (ps : Pats) (ts : Tys) (g : Names Ty) (a : Text) → is_among (keys (bind_all_types ps ts g)) a ≡ true →
      (is_bound_by_some ps a || is_among (keys g) a) ≡ true
  some-key no_pats ts g a h = h
  some-key (more_pats p ps) no_tys g a h = joined (is_bound p a) (is_bound_by_some ps a) (is_among (keys (bind_types p any_ty g)) a)
      (is_among (keys g) a) (bound-key p any_ty g a) (some-key ps no_tys (bind_types p any_ty g) a h)
  some-key (more_pats p ps) (more_tys t ts) g a h = joined (is_bound p a) (is_bound_by_some ps a) (is_among (keys (bind_types p t g)) a)
      (is_among (keys g) a) (bound-key p t g a) (some-key ps ts (bind_types p t g) a h)

-- A name in scope behind a pattern is bound by it, or in scope before it.
scope-behind : (u : Bool) (b k m : Bool) → (k ≡ true → (b || m) ≡ true) → (n : Bool) → (m || n ≡ true → u ≡ true) → k || n ≡ true →
    (u || b) ≡ true
scope-behind true b k m f n g h = refl
scope-behind false true k m f n g h = refl
scope-behind false false true m f n g h = let y : m || n ≡ true = ap (λ c. c || n) (f refl) in g y
scope-behind false false false true f n g h = g refl
scope-behind false false false false f n g h = g h

-- Behind a pattern the names in scope are those, or bound by it.
pub bound-covers : (v : Text → Bool) (p : Pat) (t : Ty) (s : Scope) (u : Text → Bool) → Covers v s u →
    Covers v (record s { tys = bind_types p t s.tys }) (with_names u p)
bound-covers v p t s u h = record {
  names = λ a i. scope-behind (u a) (is_bound p a) (is_among (keys (bind_types p t s.tys)) a) (is_among (keys s.tys) a)
      (bound-key p t s.tys a) (is_among (s.enums ++ s.unnamed ++ keys s.lets.doms) a)
      (λ j. h.names a (split (keys s.tys) s.enums s.unnamed (keys s.lets.doms) a ∙ j))
      (sym (split (keys (bind_types p t s.tys)) s.enums s.unnamed (keys s.lets.doms) a) ∙ i);
  types = h.types;
}
  where
    or-moved : (a b c d : Bool) → ((a || b) || c) || d ≡ a || ((b || c) || d)
    or-moved true b c d = refl
    or-moved false b c d = refl

    split : (ks es us ds : List Text) (a : Text) → is_among (ks ++ es ++ us ++ ds) a ≡ is_among ks a || is_among (es ++ us ++ ds) a
    split ks es us ds a =
        among-append (ks ++ es ++ us) ds a
        ∙ ap (λ b. b || is_among ds a) (among-append (ks ++ es) us a ∙ ap (λ b. b || is_among us a) (among-append ks es a))
        ∙ or-moved (is_among ks a) (is_among es a) (is_among us a) (is_among ds a)
        ∙ ap (λ b. is_among ks a || b)
        (sym (among-append (es ++ us) ds a ∙ ap (λ b. b || is_among ds a) (among-append es us a)))

-- ---- operands of an index

-- What is asked of the operands behind the first, which may be a field.
pub tail-asked : (q : Asked) (b : Bool) (bs : List Bool) (e : Ex) (es : Exs) (s : Scope) →
    every_operand q (b ∷ bs) (more_exs e es) s ≡ true → every_operand q bs es s ≡ true
tail-asked q true bs e es s h = h
tail-asked q false bs e es s h = and-right (every q e s) (every_operand q bs es s) h

pub head-asked : (q : Asked) (b : Bool) (bs : List Bool) (e : Ex) (es : Exs) (s : Scope) → b ≡ false →
    every_operand q (b ∷ bs) (more_exs e es) s ≡ true → every q e s ≡ true
head-asked q true bs e es s f h = cc
head-asked q false bs e es s f h = and-left (every q e s) (every_operand q bs es s) h

-- One step more: what stands at it is left where it is by a value, and then it is no field.
step-uses : (v u : Text → Bool) (g : Names Ty) (t : Option Ty) (qs rs : List Step) (e : Ex) (es : Exs) →
    is_some (type_behind t (static e) (type_of e g)) ≡ true → (is_some_and t is_record ≡ false → UsesAre v u (resolve e g)) →
    (r : Step) → step_at t (static e) ≡ r → UsesAreExs v u (kept_indices qs rs es) →
    UsesAreExs v u (kept_indices (by_value ∷ qs) (r ∷ rs) (more_exs (resolve e g) es))
step-uses v u g t qs rs e es i k by_value r w = (k (value-flag t (static e) (type_of e g) r i), w)
step-uses v u g t qs rs e es i k (to_component n) r w = w
step-uses v u g t qs rs e es i k (to_field x) r w = w

-- Each operand of which both are asked has, resolved, free names that are so.
abbrev pub EachUses : (Text → Bool) → Asked → Scope → List Text → List Text → (Text → Bool) → Exs → Type 0
EachUses v q s ms ns u no_exs = Unit {0}
EachUses v q s ms ns u (more_exs e es) =
    (every q e (depending ms s) ≡ true → every known_parts e (depending ns s) ≡ true →
    UsesAre v u (resolve e s.tys)) × EachUses v q s ms ns u es

module _ (v : Text → Bool) (q : Asked) (s : Scope) (ms ns : List Text) (u : Text → Bool) where
  pub all-use : (es : Exs) → EachUses v q s ms ns u es → every_operand q [] es (depending ms s) ≡ true →
      every_operand known_parts [] es (depending ns s) ≡ true → UsesAreExs v u (resolve_exs es s.tys)
  all-use no_exs k a f = tt
  all-use (more_exs e es) k a f = (
    k.0 (and-left (every q e (depending ms s)) (every_operand q [] es (depending ms s)) a)
        (and-left (every known_parts e (depending ns s)) (every_operand known_parts [] es (depending ns s)) f),
    all-use es k.1 (and-right (every q e (depending ms s)) (every_operand q [] es (depending ms s)) a)
        (and-right (every known_parts e (depending ns s)) (every_operand known_parts [] es (depending ns s)) f),
  )

  -- The operands that are left of steps which lead somewhere have such free names.
  pub steps-use : (t : Option Ty) (qs : List Step) (es : Exs) → Leads s.tys t qs es → EachUses v q s ms ns u es →
      every_operand q (field_steps t qs (statics es) (types_of es s.tys)) es (depending ms s) ≡ true →
      every_operand known_parts (field_steps t qs (statics es) (types_of es s.tys)) es (depending ns s) ≡ true →
      UsesAreExs v u (kept_indices qs (steps_from t qs (statics es) (types_of es s.tys)) (resolve_exs es s.tys))
  steps-use t [] es i k a f = all-use es k a f
  steps-use t (by_value ∷ qs) no_exs i k a f = subst (UsesAreExs v u) (sym (kept-none qs qs)) tt
  steps-use t (by_value ∷ qs) (more_exs e es) i k a f =
      let w : Option Ty = type_behind t (static e) (type_of e s.tys) in
      let bs : List Bool = field_steps w qs (statics es) (types_of es s.tys) in
      step-uses v u s.tys t qs (steps_from w qs (statics es) (types_of es s.tys)) e (resolve_exs es s.tys)
      (some-there w (λ p. path_ty p qs (statics es) (types_of es s.tys)) (value-leads s.tys t qs e es i))
      (λ n. k.0 (head-asked q (is_some_and t is_record) bs e es (depending ms s) n a)
      (head-asked known_parts (is_some_and t is_record) bs e es (depending ns s) n f))
      (step_at t (static e)) refl
      (steps-use w qs es (value-leads s.tys t qs e es i) k.1
      (tail-asked q (is_some_and t is_record) bs e es (depending ms s) a)
      (tail-asked known_parts (is_some_and t is_record) bs e es (depending ns s) f))
  steps-use t (to_component n ∷ qs) es i k a f =
      steps-use (part_behind t (a_number n)) qs es (component-leads s.tys t n qs es i) k a f
  steps-use t (to_field x ∷ qs) es i k a f =
      steps-use (part_behind t (a_name x)) qs es (field-leads s.tys t x qs es i) k a f
