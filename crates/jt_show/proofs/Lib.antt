pub mod CutCorrect
pub mod NumberedLines
pub mod PlacesSeen
pub mod SlotsNamed
pub mod TargetsFound
pub mod UnitLines
pub mod UnitsAccepted
pub mod TextsPut
