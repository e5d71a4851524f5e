-- Tables meet the structures of sizes of a domain where they meet those of the domain.
use Rattle.std.proofs.Common.{false, List, [], ◌∷◌, Option, Some, None}
use Rattle.ess_semantics.specs.Values.{Value}
use Rattle.ess_semantics.specs.Trees.{Mark, Ex, Exs, no_exs, more_exs, Dom, Doms, bool_dom, int_dom, name_dom, tuple_dom, record_dom, matrix_dom, set_dom, mset_dom, function_dom, relation_dom, partition_dom, no_doms, more_doms}
use Rattle.ess_semantics.specs.Contexts.{Each, EachOf}
use Rattle.ess_semantics.specs.Meaning.{Env, domain_of, members_in}
use Rattle.ess_semantics.specs.Meets.{Meets, MeetsAll, MeetsDom, MeetsDoms}
use Rattle.ess_repr_declare_laws.specs.SizeTerms.{bound_ex, slots_ex, dummy_ex}
use Rattle.ess_kind_sizes_laws.proofs.SizesHave.{SizeParts, AllHave, NumbersHave, AllNumbersHave, bound-has, set-slots-have, dummy-has}

each-any : (vs : List Value) (P : Value → Type 0) → ((v : Value) → P v) → Each vs P
each-any [] P h = tt
each-any (v ∷ vs) P h = (h v, each-any vs P h)

each-of-any : (o : Option (List Value)) (P : Value → Type 0) → ((v : Value) → P v) → EachOf o P
each-of-any None P h = tt
each-of-any (Some vs) P h = each-any vs P h

module _ (env : Env) where
  -- Tables meet the structures of the expression, and of the domain.
  abbrev Met : Ex → Type 0
  Met e = Meets e env

  abbrev MetDom : Dom → Type 0
  MetDom d = MeetsDom d env

  each-met : (es : Exs) → MeetsAll false es env → AllHave Met MetDom es
  each-met no_exs h = tt
  each-met (more_exs e es) h = (h.0, each-met es h.1)

  mutual
    numbers-met : (d : Dom) → MeetsDom d env → NumbersHave Met MetDom d
    numbers-met bool_dom h = tt
    numbers-met (int_dom rs es) h = (each-met es h, h)
    numbers-met (name_dom a) h = tt
    numbers-met (tuple_dom ds) h = all-met ds h
    numbers-met (record_dom fs ds) h = all-met ds h
    numbers-met (matrix_dom is d) h = (all-met is h.0, numbers-met d h.1)
    numbers-met (set_dom ms es d) h = (each-met es h.0, numbers-met d h.1)
    numbers-met (mset_dom ms es d) h = (each-met es h.0, numbers-met d h.1)
    numbers-met (function_dom ms es d c) h = (each-met es h.0, numbers-met d h.1, numbers-met c h.2)
    numbers-met (relation_dom ms es ds) h = (each-met es h.0, all-met ds h.1)
    numbers-met (partition_dom ms es d) h = (each-met es h.0, numbers-met d h.1)

    all-met : (ds : Doms) → MeetsDoms ds env → AllNumbersHave Met MetDom ds
    all-met no_doms h = tt
    all-met (more_doms d ds) h = (numbers-met d h.0, all-met ds h.1)

  sizes-met : SizeParts Met MetDom
  sizes-met = record {
    zero = tt;
    one = tt;
    two = tt;
    sums = λ a c g h. (g, (h, tt));
    differences = λ a c g h. (g, (h, tt));
    products = λ a c g h. (g, (h, tt));
    powers = λ a c g h. (g, (h, tt));
    most = λ a h. ((tt, (h, tt)), tt);
    listed = λ d h. ((h, each-of-any (members_in (domain_of d env)) (λ v. Unit {0}) (λ v. tt)), tt);
  }

  -- Those of the slots of a set.
  pub slots-met : (ms : List Mark) (es : Exs) (d : Dom) → MeetsDom (set_dom ms es d) env → Meets (slots_ex (set_dom ms es d)) env
  slots-met ms es d h = set-slots-have Met MetDom sizes-met ms es d (each-met es h.0) (numbers-met d h.1)

  -- Those of the bound of a domain.
  pub bound-met : (d : Dom) → MeetsDom d env → Meets (bound_ex d) env
  bound-met d h = bound-has Met MetDom sizes-met d (numbers-met d h)

  -- And of a dummy.
  pub dummy-met : (d : Dom) → MeetsDom d env → Meets (dummy_ex d) env
  dummy-met d h = dummy-has Met MetDom sizes-met d (numbers-met d h)
