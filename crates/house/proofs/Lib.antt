pub mod HouseLaws
pub mod DraftLaws
pub mod HouseBoard
pub mod NoteWritten
pub mod WriteLaws
pub mod WriterSteps
