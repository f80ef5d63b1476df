pub mod LedgerLooks
pub mod KeptCampaigns
