pub mod Dossier
