-- Names one by one
mod NameRows
-- What listings are of views by their parts
mod PairListings
-- What lookups are of applications and of views by their parts
mod AppliedForms
mod PairLookups
-- Worked examples
mod ExamplesApplications
