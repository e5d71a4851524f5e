-- What the judgements say of a statement, and that what it declares depends on finds only where it says so.
use Rattle.std.proofs.Common.{◌≡◌, sym, ap, ◌∙◌, true, ◌&&◌, if◌then◌else◌, List, [], ◌∷◌, ◌++◌, Option, Some, None, is_some}
use Rattle.ess_semantics.specs.Lists.{list_or_none}
use Rattle.ess_semantics.specs.Values.{Text, Value}
use Rattle.ess_semantics.specs.Order.{same_text}
use Rattle.ess_semantics.specs.Names.{Names, look, is_among}
use Rattle.ess_semantics.specs.Trees.{Ex, Stm, given, given_enum, let_ex, let_dom, let_enum, let_unnamed, needs, find, such_that, minimise, maximise}
use Rattle.ess_semantics.specs.Typing.{type_of}
use Rattle.ess_semantics.specs.Lettings.{put_ex}
use Rattle.ess_semantics.specs.Prepared.{resolve_stm}
use Rattle.ess_semantics.specs.Scopes.{Scope, Asked, asking, every}
use Rattle.ess_semantics.specs.DomainJudgements.{dom_fits, is_enumerable, dom_is_enumerable}
use Rattle.ess_semantics.specs.ExpressionJudgements.{ex_fits, part_fits, pattern_fits}
use Rattle.ess_semantics.specs.Judgements.{unknown_name, double_name, ill_typed, not_finite, not_enumerable, open_given, judgements, first_failed, names_are_new, place_fits, order_is_fit, size_is_fixed, every_of_stm, put_in_scope, scope_after, depending_by}
use Rattle.ess_semantics.specs.Meaning.{Env, TypeEntry}
use Rattle.ess_semantics.specs.Assignments.{Assignment, nothing_given, value_of, value_if, enum_items, size_of, env_after}
use Rattle.ess_semantics.proofs.Tests.{and-left, and-right, or-left-no, or-right-no}
use Rattle.conjure_laws.proofs.SetScopesTyped.{passed, later_judgements}
use Rattle.conjure_settled_laws.proofs.KnownIndices.{known_parts}
use Rattle.conjure_settled_laws.proofs.LaterEnvs.{value-past, off-right}
use Rattle.conjure_settled_laws.proofs.FixedParts.{SameGivens, fixed-same}

-- What the judgement of types asks of each part.
abbrev pub type_parts : Asked
type_parts = record asking { of_ex = ex_fits; of_dom = dom_fits; of_pattern = λ p u z. pattern_fits p u }

pub has-type : (x : Ex) (z : Scope) → type_parts.of_ex x z ≡ true → is_some (type_of x z.tys) ≡ true
has-type x z h = and-left (is_some (type_of x z.tys)) (part_fits x z) h

-- What the judgement of domains asks of each part.
abbrev pub listed_parts : Asked
listed_parts = record asking { of_dom = dom_is_enumerable; of_generator = λ d z. is_enumerable d }

-- What is used of the judgements of a statement.
pub record Judged (w t : Stm) (s : Scope) : Type 0 where
  pub known : every_of_stm known_parts t s ≡ true
  pub new : names_are_new w s ≡ true
  pub typed : every_of_stm type_parts t s ≡ true
  pub listed : every_of_stm listed_parts t s ≡ true
  pub sized : size_is_fixed t s ≡ true

pub judged : (w t : Stm) (s : Scope) → first_failed judgements w t s ≡ None → Judged w t s
judged w t s e =
    let a = passed unknown_name (double_name ∷ later_judgements) w t s e in
    let b = passed double_name later_judgements w t s a.1 in
    let c = passed ill_typed (not_finite ∷ not_enumerable ∷ open_given ∷ []) w t s b.1 in
    let d = passed not_finite (not_enumerable ∷ open_given ∷ []) w t s c.1 in
    let f = passed not_enumerable (open_given ∷ []) w t s d.1 in record {
      known = a.0;
      new = b.0;
      typed = and-left (every_of_stm type_parts t s) (place_fits t s)
          (and-left (every_of_stm type_parts t s && place_fits t s) (order_is_fit t s) c.0);
      listed = and-left (every_of_stm listed_parts t s) (size_is_fixed t s) f.0;
      sized = and-right (every_of_stm listed_parts t s) (size_is_fixed t s) f.0;
    }

-- ---- what depends on finds

-- Values of one more name on both sides.
value-both : (x : Text) (o : Option Value) (g h : Names Value) (a : Text) → look g a ≡ look h a →
    look (value_if x o g) a ≡ look (value_if x o h) a
value-both x None g h a e = e
value-both x (Some v) g h a e = ap (λ r. if same_text x a then Some v else r) e

values-both : (bs g h : Names Value) (a : Text) → look g a ≡ look h a → look (bs ++ g) a ≡ look (bs ++ h) a
values-both [] g h a e = e
values-both (b ∷ bs) g h a e = ap (λ r. if same_text b.0 a then Some b.1 else r) (values-both bs g h a e)

-- One more type on both sides.
entry-both : (x : TypeEntry) (ts us : List TypeEntry) → ts ≡ us → x ∷ ts ≡ x ∷ us
entry-both x ts us e = ap (λ l. x ∷ l) e

-- The entry of an unnamed type of this size.
abbrev sized_entry : Text → Option Value → TypeEntry
sized_entry t o = record { name = t; count = size_of o; names = [] }

entries-both : (t : Text) (ts us : List TypeEntry) {o r : Option Value} → o ≡ r → ts ≡ us → sized_entry t o ∷ ts ≡ sized_entry t r ∷ us
entries-both t ts us {r = r} e f = ap (λ o. sized_entry t o ∷ ts) e ∙ entry-both (sized_entry t r) ts us f

-- Behind a statement the envs still agree on what depends on no find.
pub same-behind : (w : Stm) (s : Scope) (p a : Assignment) (env other : Env) → Judged w (put_in_scope w s) s → SameGivens s env other →
    let t : Stm = put_in_scope w s in
    SameGivens (scope_after t s) (env_after (resolve_stm t s.tys) p a env) (env_after (resolve_stm t s.tys) p nothing_given other)
same-behind (given x d) s p a env other j h = record {
  positions = h.positions;
  cells = h.cells;
  types = h.types;
  vals = λ y i. value-both x (value_of p x) env.vals other.vals y (h.vals y i);
}
same-behind (given_enum t) s p a env other j h = record {
  positions = h.positions;
  cells = h.cells;
  types = entry-both _ env.types other.types h.types;
  vals = λ y i. values-both (enum_items t 1 (list_or_none (look p.types t))) env.vals other.vals y (h.vals y i);
}
same-behind (let_ex x e) s p a env other j h = record {
  positions = h.positions;
  cells = h.cells;
  types = h.types;
  vals = λ y i. h.vals y (off-right (depending_by (put_in_scope (let_ex x e) s) s) s.depends_on_finds y i);
}
same-behind (let_dom x d) s p a env other j h =
    record { positions = h.positions; cells = h.cells; types = h.types; vals = h.vals }
same-behind (let_enum t ns) s p a env other j h = record {
  positions = h.positions;
  cells = h.cells;
  types = entry-both _ env.types other.types h.types;
  vals = λ y i. values-both (enum_items t 1 ns) env.vals other.vals y (h.vals y i);
}
same-behind (let_unnamed t e) s p a env other j h =
    let f : Ex = put_ex e s.lets s.tys in
    let m = fixed-same type_parts has-type f s env other (and-left (every type_parts f s) true j.typed) j.sized h in record {
      positions = h.positions;
      cells = h.cells;
      types = entries-both t env.types other.types m h.types;
      vals = h.vals;
    }
same-behind (needs e) s p a env other j h =
    record { positions = h.positions; cells = h.cells; types = h.types; vals = h.vals }
same-behind (find x d) s p a env other j h = record {
  positions = h.positions;
  cells = h.cells;
  types = h.types;
  vals = λ y i. sym (value-past x (value_of a x) env.vals y (or-left-no (same_text x y) (is_among s.depends_on_finds y) i))
      ∙ h.vals y (or-right-no (same_text x y) (is_among s.depends_on_finds y) i);
}
same-behind (such_that e) s p a env other j h =
    record { positions = h.positions; cells = h.cells; types = h.types; vals = h.vals }
same-behind (minimise e) s p a env other j h =
    record { positions = h.positions; cells = h.cells; types = h.types; vals = h.vals }
same-behind (maximise e) s p a env other j h =
    record { positions = h.positions; cells = h.cells; types = h.types; vals = h.vals }
