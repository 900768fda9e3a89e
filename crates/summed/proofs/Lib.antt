-- Of a tally: a frame's walk (Walked), the first that is lost (Lost), where a rule occurs (Occurring), sums as totals (Totals), and the theorems
-- (Demands). Assumes nothing.
pub mod Walked
pub mod Lost
pub mod Occurring
pub mod Totals
pub mod Demands
