-- What is found of a part of a statement in its scope: one truth value for each thing that judging asks of all that the part
-- holds.
use Rattle.std.specs.Prelude.{Bool, true, ◌&&◌, if◌then◌else◌}

-- The findings of a part, each said of the part and of all parts in it.
pub record Found : Type 0 where
  -- All names are known.
  pub known : Bool
  -- Patterns bind new names.
  pub new : Bool
  -- Types fit.
  pub fits : Bool
  -- No find is mentioned.
  pub fixed : Bool
  -- Each comprehension is ordered where order counts, if it counts at the part's own place.
  pub in_order : Bool
  -- The same if order doesn't count at the part's own place.
  pub unordered : Bool
  -- Domains of generators are finite.
  pub finite : Bool
  -- Domains of generators and those that an attribute lists are enumerable, and numbers of domains are fixed.
  pub enumerable : Bool

-- Nothing is amiss.
abbrev pub all_well : Found
all_well = record { known = true; new = true; fits = true; fixed = true; in_order = true; unordered = true; finite = true; enumerable = true }

-- What is found of two parts together.
abbrev pub both : Found → Found → Found
both f g =
    record {
      known = f.known && g.known;
      new = f.new && g.new;
      fits = f.fits && g.fits;
      fixed = f.fixed && g.fixed;
      in_order = f.in_order && g.in_order;
      unordered = f.unordered && g.unordered;
      finite = f.finite && g.finite;
      enumerable = f.enumerable && g.enumerable;
    }

-- What is found of a part at a place of which `counts` says whether order counts there.
abbrev pub at_place : Bool → Found → Found
at_place counts f =
    let x : Bool = if counts then f.in_order else f.unordered in record f { in_order = x; unordered = x }
