pub mod SlotNames
