pub mod PartLaws
pub mod DossierLaws
