pub mod FieldLaws
pub mod ByteLaws
pub mod PutLaws
pub mod SheetLaws
