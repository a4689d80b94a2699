pub mod Laws
pub mod Values
pub mod Kinds
pub mod Meanings
pub mod YesNoLaws
pub mod CountLaws
pub mod LeastCostLaws
pub mod PairLaws
