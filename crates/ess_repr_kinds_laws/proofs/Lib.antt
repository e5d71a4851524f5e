-- Views of truth values
mod TruthChannels
-- Worked examples
mod Examples
