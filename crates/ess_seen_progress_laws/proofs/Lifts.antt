-- Where a rule fires at a part of an operand, of a body, of generators or of a domain, it fires at a part of the whole.
use Rattle.std.proofs.Common.{◌≡◌, refl, ap, ◌∙◌, ℕ, Bool, List, [], ◌∷◌, Option}
use Rattle.ess_semantics.specs.Values.{Text}
use Rattle.ess_semantics.specs.Names.{Names}
use Rattle.ess_semantics.specs.Trees.{Op, both_ends, name_pat, Ex, Exs, node_ex, comp_ex, cell_ex, more_exs, Gens, over, cond, Dom, int_dom}
use Rattle.ess_semantics.specs.Types.{type_of_dom}
use Rattle.ess_semantics.specs.Contexts.{hole, in_operand, in_body, in_generators, in_cell_index, in_first, in_later, in_generator_domain, behind_over, in_condition, behind_condition, in_bound, fill_exs, fill_gens, fill_dom}
use Rattle.ess_semantics.specs.NamesAt.{names_at, names_at_exs, names_at_gens, names_at_dom}
use Rattle.ess_seen_laws.specs.Seen.{Bound, bound_types, bound_kind, kind_ty, Seen, Going}
use Rattle.ess_seen_laws.proofs.Types.{going-behind}
use Rattle.ess_seen_progress_laws.specs.MovesOn.{MovesOn, MovesAt, MovesWithin}

module _ (cells : Text → Option (Bool × List ℕ)) where
  -- The same of operands, of generators and of a domain.
  abbrev pub MovesAmong : Names Bound → Exs → Type 0
  MovesAmong = MovesAt cells fill_exs names_at_exs

  abbrev pub MovesInGens : Names Bound → Gens → Type 0
  MovesInGens = MovesAt cells fill_gens names_at_gens

  abbrev pub MovesInDom : Names Bound → Dom → Type 0
  MovesInDom = MovesAt cells fill_dom names_at_dom

  -- At the root.
  pub at-root : {r : Names Bound} {e : Ex} {m : Bool} → Seen cells r e m → MovesOn (bound_types r) e → MovesWithin cells r e
  at-root {r = r} {e = e} {m = m} f w =
      record { context = hole; part = e; whole = refl; names = r; mark = m; seen = f; types = refl; moves = w }

  -- In an operand, or an index of a cell.
  pub in-operands : {r : Names Bound} {es : Exs} (b : Bool) (op : Op) → MovesAmong r es → MovesWithin cells r (node_ex b op es)
  in-operands b op w = record {
    context = in_operand b op w.context;
    part = w.part;
    whole = ap (node_ex b op) w.whole;
    names = w.names;
    mark = w.mark;
    seen = w.seen;
    types = w.types;
    moves = w.moves;
  }

  pub in-indices : {r : Names Bound} {es : Exs} (b : Bool) (n : Text) → MovesAmong r es → MovesWithin cells r (cell_ex b n es)
  in-indices b n w = record {
    context = in_cell_index b n w.context;
    part = w.part;
    whole = ap (cell_ex b n) w.whole;
    names = w.names;
    mark = w.mark;
    seen = w.seen;
    types = w.types;
    moves = w.moves;
  }

  -- In the first of several, or in a later one.
  pub in-the-first : {r : Names Bound} {e : Ex} (es : Exs) → MovesWithin cells r e → MovesAmong r (more_exs e es)
  in-the-first es w = record {
    context = in_first w.context es;
    part = w.part;
    whole = ap (λ x. more_exs x es) w.whole;
    names = w.names;
    mark = w.mark;
    seen = w.seen;
    types = w.types;
    moves = w.moves;
  }

  pub in-a-later : {r : Names Bound} {es : Exs} (e : Ex) → MovesAmong r es → MovesAmong r (more_exs e es)
  in-a-later e w = record {
    context = in_later e w.context;
    part = w.part;
    whole = ap (more_exs e) w.whole;
    names = w.names;
    mark = w.mark;
    seen = w.seen;
    types = w.types;
    moves = w.moves;
  }

  -- In the body of a comprehension, or in its generators.
  pub in-the-body : {r t : Names Bound} {e : Ex} {gs : Gens} → Going cells r gs t → MovesWithin cells t e →
      MovesWithin cells r (comp_ex e gs)
  in-the-body {gs = gs} g w = record {
    context = in_body w.context gs;
    part = w.part;
    whole = ap (λ x. comp_ex x gs) w.whole;
    names = w.names;
    mark = w.mark;
    seen = w.seen;
    types = ap (names_at w.context) (going-behind cells g) ∙ w.types;
    moves = w.moves;
  }

  pub in-its-generators : {r : Names Bound} {gs : Gens} (e : Ex) → MovesInGens r gs → MovesWithin cells r (comp_ex e gs)
  in-its-generators e w = record {
    context = in_generators e w.context;
    part = w.part;
    whole = ap (comp_ex e) w.whole;
    names = w.names;
    mark = w.mark;
    seen = w.seen;
    types = w.types;
    moves = w.moves;
  }

  -- In the domain of a generator, or behind it, where it binds a name over values of the type of its kind.
  pub in-its-domain : {r : Names Bound} {d : Dom} (a : Text) (gs : Gens) → MovesInDom r d → MovesInGens r (over (name_pat a) d gs)
  in-its-domain a gs w = record {
    context = in_generator_domain (name_pat a) w.context gs;
    part = w.part;
    whole = ap (λ x. over (name_pat a) x gs) w.whole;
    names = w.names;
    mark = w.mark;
    seen = w.seen;
    types = w.types;
    moves = w.moves;
  }

  pub behind-it : {r : Names Bound} {gs : Gens} (a : Text) (d : Dom) (b : Bound) → type_of_dom d ≡ kind_ty (bound_kind b) →
      MovesInGens ((a, b) ∷ r) gs → MovesInGens r (over (name_pat a) d gs)
  behind-it {r = r} a d b h w = record {
    context = behind_over (name_pat a) d w.context;
    part = w.part;
    whole = ap (over (name_pat a) d) w.whole;
    names = w.names;
    mark = w.mark;
    seen = w.seen;
    types = ap (λ t. names_at_gens w.context ((a, t) ∷ bound_types r)) h ∙ w.types;
    moves = w.moves;
  }

  -- In a condition, or behind it.
  pub in-the-condition : {r : Names Bound} {c : Ex} (gs : Gens) → MovesWithin cells r c → MovesInGens r (cond c gs)
  in-the-condition gs w = record {
    context = in_condition w.context gs;
    part = w.part;
    whole = ap (λ x. cond x gs) w.whole;
    names = w.names;
    mark = w.mark;
    seen = w.seen;
    types = w.types;
    moves = w.moves;
  }

  pub behind-the-condition : {r : Names Bound} {gs : Gens} (c : Ex) → MovesInGens r gs → MovesInGens r (cond c gs)
  behind-the-condition c w = record {
    context = behind_condition c w.context;
    part = w.part;
    whole = ap (cond c) w.whole;
    names = w.names;
    mark = w.mark;
    seen = w.seen;
    types = w.types;
    moves = w.moves;
  }

  -- In a bound of a range.
  pub in-the-bounds : {r : Names Bound} {es : Exs} → MovesAmong r es → MovesInDom r (int_dom (both_ends ∷ []) es)
  in-the-bounds w = record {
    context = in_bound (both_ends ∷ []) w.context;
    part = w.part;
    whole = ap (int_dom (both_ends ∷ [])) w.whole;
    names = w.names;
    mark = w.mark;
    seen = w.seen;
    types = w.types;
    moves = w.moves;
  }
